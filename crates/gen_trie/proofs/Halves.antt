-- Where a word stands among keys with equal hashes, which ascend: so it is found by halves.
use Rattle.std.proofs.Common.{◌≡◌, ℕ, zero, suc, ◌<◌, ◌≤◌, List, [], ◌∷◌, length, get_or, drop, Bool, true, false, cond, T, Some, ltb-true, ltb-false, arith}
use Rattle.std.proofs.Common.{refl, sym, ◌∙◌, ap, subst}
use Rattle.std.specs.Prelude.{◌&&◌, is_some, None, IfSome}
use Rattle.std.specs.Borrow.{Bor}
use Rattle.std.specs.Option.{option_map}
use Rattle.std.specs.Slice.{IsItemAt}
use Rattle.std.specs.declared.option.Option.{Option}
use Rattle.std.specs.declared.cmp.Ordering.{Ordering}
use Rattle.std.specs.declared.cmp.Ordering.TheVariants.{Less, Equal, Greater}
use Rattle.std.specs.declared.sync.Arc.{Arc}
use Rattle.std.proofs.lemmas.List.{length-map, get_or-map}
use Rattle.std.specs.Cmp.{upto}
use Rattle.std.specs.Cmp.Lexicographic.{nat_list_cmp_total}
use Rattle.std.specs.Ordering.{eq_by_cmp, is_eq, is_gt, is_lt}
use Rattle.std.specs.FinMap.Entries.{by_order, find, below_all, is_sorted}
use Rattle.dots.specs.Bytes.{bytes_cmp}
use Rattle.hash_path.specs.Cut.{spot}
use Rattle.hash_path.specs.Rank.{rank}
use Rattle.hash_path.proofs.Ranks.{rank_more, rank_none}
use Rattle.hash_path.proofs.Words.{tied_same}
use Rattle.gen_trie.specs.declared.entry.Entry.{Entry}
use Rattle.gen_trie.specs.Shapes.{entry_at, listed}
use Rattle.gen_trie.proofs.Changes.{find_spot, tied_spot}
use Rattle.gen_trie.proofs.Ordered.{less_from, first_below, rest_below, first_sorted, rest_sorted}

no_greater : (o : Ordering) → T (is_lt o) → is_gt o ≡ false
no_greater Less t = refl
no_greater Equal t = refl
no_greater Greater t = absurd t

-- what comes before a word that is before another comes before that
earlier : (w x y : List ℕ) → is_gt (bytes_cmp x y) ≡ false → is_gt (bytes_cmp w y) ≡ true → is_gt (bytes_cmp w x) ≡ true
earlier w x y h t = by (is_gt (bytes_cmp w x)) refl
  where
    by : (b : Bool) → is_gt (bytes_cmp w x) ≡ b → is_gt (bytes_cmp w x) ≡ true
    by true p = p
    by false p = let no = upto nat_list_cmp_total w x y p h in cc

-- ---- the rank

module _ {V A : Type 0} where
  -- an entry comes before a word
  abbrev pub is_before : List ℕ → Arc (Entry V A) A → Bool
  is_before w x = is_gt (bytes_cmp w (x.value.hash ∷ x.value.key))

  upto_at : (x : List ℕ) (es : List (Arc (Entry V A) A)) (j : ℕ) (d : Arc (Entry V A) A) → T (below_all bytes_cmp x (listed es)) → j < length es
      → is_before x (get_or es j d) ≡ false
  upto_at x [] j d t h = absurd (omega arith)
  upto_at x (e ∷ es) zero d t h = no_greater (bytes_cmp x (e.value.hash ∷ e.value.key)) (first_below x (entry_at 0 e.value) (listed es) t)
  upto_at x (e ∷ es) (suc j) d t h = upto_at x es j d (rest_below x (entry_at 0 e.value) (listed es) t) (omega arith)

  -- in an ascending list those that come before a word stand first
  pub parted : (w : List ℕ) (es : List (Arc (Entry V A) A)) → T (is_sorted bytes_cmp (listed es)) → (i j : ℕ) (d : Arc (Entry V A) A) → i ≤ j → j < length es
      → is_before w (get_or es j d) ≡ true → is_before w (get_or es i d) ≡ true
  parted w [] s i j d l h t = absurd (omega arith)
  parted w (e ∷ es) s zero zero d l h t = t
  parted w (e ∷ es) s zero (suc j) d l h t =
      let x = get_or es j d in
      earlier w (e.value.hash ∷ e.value.key) (x.value.hash ∷ x.value.key)
      (upto_at (e.value.hash ∷ e.value.key) es j d (first_sorted (entry_at 0 e.value) (listed es) s) (omega arith)) t
  parted w (e ∷ es) s (suc i) zero d l h t = absurd (omega arith)
  parted w (e ∷ es) s (suc i) (suc j) d l h t = parted w es (rest_sorted (entry_at 0 e.value) (listed es) s) i j d (omega arith) (omega arith) t

  -- and their number is its rank
  pub rank_is : (w : List ℕ) (n : ℕ) (es : List (Arc (Entry V A) A)) → n ≤ length es
      → ((k : ℕ) (d : Arc (Entry V A) A) → 0 ≤ k → k < n → is_before w (get_or es k d) ≡ true)
      → ((k : ℕ) (d : Arc (Entry V A) A) → n ≤ k → k < length es → is_before w (get_or es k d) ≡ false) → n ≡ rank w (listed es)
  rank_is w n [] l f g = omega arith
  rank_is w zero (e ∷ es) l f g = sym (rank_none w e.value.value (entry_at 0 e.value) (listed es) (g zero e (omega arith) (omega arith)))
  rank_is w (suc n) (e ∷ es) l f g =
      ap suc (rank_is w n es (omega arith) (λ k d a b. f (suc k) d (omega arith) (omega (arith, b)))
      (λ k d a b. g (suc k) d (omega (arith, a)) (omega (arith, b))))
      ∙ sym (rank_more w e.value.value (entry_at 0 e.value) (listed es) (f zero e (omega arith) (omega arith)))

-- ---- the place

not_tied : (o : Ordering) → T (is_lt o) → is_eq o ≡ false
not_tied Less t = refl
not_tied Equal t = absurd t
not_tied Greater t = absurd t

module _ {V : Type 0} (w : List ℕ) where
  there_step : (d e : List ℕ × V) (es : List (List ℕ × V)) (o : Ordering) → bytes_cmp w e.0 ≡ o
      → (rank w es < length es → eq_by_cmp bytes_cmp w (get_or es (rank w es) d).0 ≡ true → spot w es ≡ rank w es)
      → by_order o 0 0 (suc (rank w es)) < suc (length es) → eq_by_cmp bytes_cmp w (get_or (e ∷ es) (by_order o 0 0 (suc (rank w es))) d).0 ≡ true
      → cond (is_eq o) 0 (suc (spot w es)) ≡ by_order o 0 0 (suc (rank w es))
  there_step d e es Less p rest h t = let no : is_eq Less ≡ true = ap is_eq (sym p) ∙ t in cc
  there_step d e es Equal p rest h t = refl
  there_step d e es Greater p rest h t = ap suc (rest (omega arith) t)

  -- the word stands at its rank, where the entry there ties
  pub spot_there : (d : List ℕ × V) (es : List (List ℕ × V)) → rank w es < length es → eq_by_cmp bytes_cmp w (get_or es (rank w es) d).0 ≡ true
      → spot w es ≡ rank w es
  spot_there d [] h t = absurd (omega arith)
  spot_there d (e ∷ es) h t = there_step d e es (bytes_cmp w e.0) refl (spot_there d es) h t

  spot_past : (es : List (List ℕ × V)) → T (below_all bytes_cmp w es) → spot w es ≡ length es
  spot_past [] b = refl
  spot_past (e ∷ es) b = ap (λ t. cond t 0 (suc (spot w es))) (not_tied (bytes_cmp w e.0) (first_below w e es b)) ∙ ap suc (spot_past es (rest_below w e es b))

  all_later : (x : List ℕ) (es : List (List ℕ × V)) → bytes_cmp w x ≡ Less → T (below_all bytes_cmp x es) → T (below_all bytes_cmp w es)
  all_later x [] p b = tt
  all_later x (e ∷ es) p b =
      let less = nat_list_cmp_total.trans w x e.0 p (less_from (bytes_cmp x e.0) (first_below x e es b)) in
      let rest = all_later x es p (rest_below x e es b) in
      subst (λ o. T (is_lt o && below_all bytes_cmp w es)) (sym less) rest

  none_step : (d e : List ℕ × V) (es : List (List ℕ × V)) (o : Ordering) → bytes_cmp w e.0 ≡ o → T (below_all bytes_cmp e.0 es)
      → ((rank w es < length es → eq_by_cmp bytes_cmp w (get_or es (rank w es) d).0 ≡ false) → spot w es ≡ length es)
      → (by_order o 0 0 (suc (rank w es)) < suc (length es) → eq_by_cmp bytes_cmp w (get_or (e ∷ es) (by_order o 0 0 (suc (rank w es))) d).0 ≡ false)
      → cond (is_eq o) 0 (suc (spot w es)) ≡ suc (length es)
  none_step d e es Less p b rest t = ap suc (spot_past es (all_later e.0 es p b))
  none_step d e es Equal p b rest t = let no : is_eq Equal ≡ false = ap is_eq (sym p) ∙ t (omega arith) in cc
  none_step d e es Greater p b rest t = ap suc (rest (λ h. t (omega (arith, h))))

  -- and nowhere in an ascending list, where it does not
  pub spot_none : (d : List ℕ × V) (es : List (List ℕ × V)) → T (is_sorted bytes_cmp es)
      → (rank w es < length es → eq_by_cmp bytes_cmp w (get_or es (rank w es) d).0 ≡ false) → spot w es ≡ length es
  spot_none d [] s t = refl
  spot_none d (e ∷ es) s t = none_step d e es (bytes_cmp w e.0) refl (first_sorted e es s) (spot_none d es (rest_sorted e es s)) t

-- ---- the same of entries

module _ {V A : Type 0} (w : List ℕ) (n : ℕ) (es : List (Arc (Entry V A) A)) where
  rank_within : n ≡ rank w (listed es) → n < length es → rank w (listed es) < length (listed es)
  rank_within p h = subst (λ k. k < length (listed es)) p (subst (λ k. n < k) (sym (length-map es (λ (x : Arc (Entry V A) A). entry_at 0 x.value))) h)

  place_by : (d : List ℕ × V) → n ≡ rank w (listed es) → n < length es → true ≡ eq_by_cmp bytes_cmp w (get_or (listed es) n d).0 → n ≡ spot w (listed es)
  place_by d p h t = p ∙ sym (spot_there w d (listed es) (rank_within p h) (sym (subst (λ k. true ≡ eq_by_cmp bytes_cmp w (get_or (listed es) k d).0) p t)))

  none_by : (d : List ℕ × V) → T (is_sorted bytes_cmp (listed es)) → n ≡ rank w (listed es)
      → (n < length es → false ≡ eq_by_cmp bytes_cmp w (get_or (listed es) n d).0) → length es ≡ spot w (listed es)
  none_by d s p t =
      sym (length-map es (λ (x : Arc (Entry V A) A). entry_at 0 x.value))
      ∙ sym (spot_none w d (listed es) s
      (λ h. sym (subst (λ k. false ≡ eq_by_cmp bytes_cmp w (get_or (listed es) k d).0) p
      (t (subst (λ k. k < length es) (sym p) (subst (λ k. rank w (listed es) < k) (length-map es (λ (x : Arc (Entry V A) A). entry_at 0 x.value)) h))))))

module _ {V A : Type 0} (w : List ℕ) (n : ℕ) where
  pub place_there : (es : List (Arc (Entry V A) A)) → n ≡ rank w (listed es) → n < length es
      → ((d : List ℕ × V) → true ≡ eq_by_cmp bytes_cmp w (get_or (listed es) n d).0) → n ≡ spot w (listed es)
  place_there [] p h t = absurd (omega arith)
  place_there (e ∷ es) p h t = place_by w n (e ∷ es) (entry_at 0 e.value) p h (t (entry_at 0 e.value))

  pub place_none : (es : List (Arc (Entry V A) A)) → T (is_sorted bytes_cmp (listed es)) → n ≡ rank w (listed es)
      → (n < length es → (d : List ℕ × V) → false ≡ eq_by_cmp bytes_cmp w (get_or (listed es) n d).0) → length es ≡ spot w (listed es)
  place_none [] s p t = refl
  place_none (e ∷ es) s p t = none_by w n (e ∷ es) (entry_at 0 e.value) s p (λ h. t h (entry_at 0 e.value))

-- ---- what is found at the place

module _ {V : Type 0} (w : List ℕ) where
  spot_found : (es : List (List ℕ × V)) → spot w es < length es → is_some (find bytes_cmp w es) ≡ true
  spot_found [] h = absurd (omega arith)
  spot_found (e ∷ es) h = step (eq_by_cmp bytes_cmp w e.0) (spot_found es) h
    where
      step : (b : Bool) → (spot w es < length es → is_some (find bytes_cmp w es) ≡ true) → cond b 0 (suc (spot w es)) < suc (length es)
          → is_some (cond b (Some e.1) (find bytes_cmp w es)) ≡ true
      step true rest l = refl
      step false rest l = rest (omega arith)

  none_found : (es : List (List ℕ × V)) → length es ≤ spot w es → find bytes_cmp w es ≡ None
  none_found [] h = refl
  none_found (e ∷ es) h = step (eq_by_cmp bytes_cmp w e.0) (none_found es) h
    where
      step : (b : Bool) → (length es ≤ spot w es → find bytes_cmp w es ≡ None) → suc (length es) ≤ cond b 0 (suc (spot w es))
          → cond b (Some e.1) (find bytes_cmp w es) ≡ None
      step true rest l = absurd (omega arith)
      step false rest l = rest (omega arith)

module _ {V A : Type 0} (hash : ℕ) (key : List ℕ) (n : ℕ) (es : List (Arc (Entry V A) A)) (place : n ≡ spot (hash ∷ key) (listed es)) where
  entry_found : (x : Arc (Entry V A) A) → n < length es → x ≡ get_or es n x → (find bytes_cmp (hash ∷ key) (listed es) ≡ Some x.value.value)
      × (x.value.key ≡ key)
  entry_found x h is =
      let w = hash ∷ key in
      let d = entry_at 0 x.value in
      let within : spot w (listed es) < length (listed es) = subst (λ k. k < length (listed es)) place
      (subst (λ k. n < k) (sym (length-map es (λ (y : Arc (Entry V A) A). entry_at 0 y.value))) h) in
      let there = spot_found w (listed es) within in
      let here : get_or (listed es) (spot w (listed es)) d ≡ d =
      ap (λ k. get_or (listed es) k d) (sym place) ∙ get_or-map (λ (y : Arc (Entry V A) A). entry_at 0 y.value) es n x d h
      ∙ ap (λ (y : Arc (Entry V A) A). entry_at 0 y.value) (sym is) in
      let tied : eq_by_cmp bytes_cmp w d.0 ≡ true = subst (λ (y : List ℕ × V). eq_by_cmp bytes_cmp w y.0 ≡ true) here (tied_spot w d (listed es) there) in (
        find_spot w d (listed es) there ∙ ap (λ (y : List ℕ × V). Some y.1) here,
        sym (ap (drop 1) (tied_same w d.0 tied)),
      )

  pub get_value : (o : Option (Bor (Arc (Entry V A) A))) → IsItemAt es n o → option_map (λ found. found.now.value.value) o
      ≡ find bytes_cmp (hash ∷ key) (listed es)
  get_value None get =
      let past = ltb-false n (length es) (sym get.0) in
      sym (none_found (hash ∷ key) (listed es) (subst (λ k. length (listed es) ≤ k) place
      (subst (λ k. k ≤ n) (sym (length-map es (λ (y : Arc (Entry V A) A). entry_at 0 y.value))) past)))
  get_value (Some x) get = sym (entry_found x.now (ltb-true n (length es) (sym get.0)) get.1).0

  pub get_key : (o : Option (Bor (Arc (Entry V A) A))) → IsItemAt es n o → IfSome o (λ found. found.now.value.key ≡ key)
  get_key None get = tt
  get_key (Some x) get = (entry_found x.now (ltb-true n (length es) (sym get.0)) get.1).1

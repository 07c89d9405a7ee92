-- What the walk of a map has, and what its part under a prefix is.
use Rattle.std.proofs.Common.{◌≡◌, ℕ, zero, suc, ◌-◌, ◌≤◌, ◌↔◌, List, [], ◌∷◌, ◌++◌, length, drop, get_or, Bool, true, false, cond, nat_eq, T, Some, arith}
use Rattle.std.proofs.Common.{refl, sym, ◌∙◌, ap, subst, eqb-true, eq-eqb}
use Rattle.std.specs.Prelude.{◌&&◌}
use Rattle.std.specs.declared.cmp.Ordering.{Ordering}
use Rattle.std.specs.declared.cmp.Ordering.TheVariants.{Less, Equal, Greater}
use Rattle.std.specs.Ordering.{is_lt, is_eq, eq_by_cmp}
use Rattle.std.specs.Cmp.Lexicographic.{nat_list_cmp_total}
use Rattle.std.specs.List.{All, Contains, filter}
use Rattle.std.specs.FinMap as finite
use Rattle.std.specs.FinMap.{get-entries, get-from_entries, entries_sorted, entries-insert, len-entries, len-empty}
use Rattle.std.specs.FinMap.Entries.{find, is_sorted, below_all}
use Rattle.std.proofs.lemmas.List.{nil_from_length}
use Rattle.std.proofs.lemmas.List.Elements.{All-nil, All-cons, All-map}
use Rattle.std.proofs.lemmas.Option.{same_Some}
use Rattle.dots.specs.Bytes.{bytes_cmp}
use Rattle.hash_path.specs.Path.{indices}
use Rattle.hash_path.specs.PathLaws.{length-indices}
use Rattle.hash_path.specs.Word.{word, begins}
use Rattle.hash_path.specs.Map.{path, key_of, HashedBy, by_key, as_map, with_path, by_path, walk, walk_under}
use Rattle.hash_path.specs.Summary.{under_index, under_prefix}
use Rattle.hash_path.proofs.Maps.{HashedBy-put}
use Rattle.hash_path.proofs.Paths.{path_begins}
use Rattle.hash_path.proofs.Walks.{find-with_path, walk_is}
use Rattle.hash_path.proofs.Words.{key_in-word, tied_same, same_tied}

first : (a b : Bool) → T (a && b) → T a
first true b p = tt
first false b p = p

second : (a b : Bool) → T (a && b) → T b
second true b p = p
second false b p = absurd p

less_apart : (o : Ordering) → T (is_lt o) → is_eq o ≡ false
less_apart Less t = refl
less_apart Equal t = absurd t
less_apart Greater t = absurd t

-- ---- each entry of ascending entries is found

apart : (w x : List ℕ) → T (is_lt (bytes_cmp w x)) → eq_by_cmp bytes_cmp x w ≡ false
apart w x t = step (eq_by_cmp bytes_cmp x w) refl
  where
    step : (b : Bool) → eq_by_cmp bytes_cmp x w ≡ b → b ≡ false
    step false e = refl
    step true e =
        let off : eq_by_cmp bytes_cmp w x ≡ false = less_apart (bytes_cmp w x) t in
        sym (same_tied w x (sym (tied_same x w e))) ∙ off

module _ {V : Type 0} where
  later : (w : List ℕ) (es : List (List ℕ × V)) → T (below_all bytes_cmp w es) → All (λ e. eq_by_cmp bytes_cmp e.0 w ≡ false) es
  later w [] t = All-nil (λ e. eq_by_cmp bytes_cmp e.0 w ≡ false)
  later w (e ∷ es) t =
      All-cons (λ e. eq_by_cmp bytes_cmp e.0 w ≡ false) e es (apart w e.0 (first (is_lt (bytes_cmp w e.0)) (below_all bytes_cmp w es) t))
      (later w es (second (is_lt (bytes_cmp w e.0)) (below_all bytes_cmp w es) t))

  each_found : (es : List (List ℕ × V)) → T (is_sorted bytes_cmp es) → All (λ e. find bytes_cmp e.0 es ≡ Some e.1) es
  each_found [] s = All-nil (λ e. find bytes_cmp e.0 [] ≡ Some e.1)
  each_found (e ∷ es) s =
      let after = later e.0 es (first (below_all bytes_cmp e.0 es) (is_sorted bytes_cmp es) s) in
      let rest = each_found es (second (below_all bytes_cmp e.0 es) (is_sorted bytes_cmp es) s) in
      All-cons (λ x. find bytes_cmp x.0 (e ∷ es) ≡ Some x.1) e es
      (ap (λ b. cond b (Some e.1) (find bytes_cmp e.0 es)) (same_tied e.0 e.0 refl))
      (λ k d l. ap (λ b. cond b (Some e.1) (find bytes_cmp (get_or es k d).0 es)) (after k d l) ∙ rest k d l)

one_later : {X : Type 0} (x y : X) (xs : List X) → Contains xs y → Contains (x ∷ xs) y
one_later x y xs h = let less = h.1 in (suc h.0, omega (arith, less), h.2)

-- ---- the walk has each key with its value, and nothing else

module _ {V : Type 0} (f : List ℕ → ℕ) where
  HashedBy-from : (es : List (List ℕ × V)) → HashedBy f (finite.entries (finite.from_entries {R = bytes_cmp} (with_path f es)))
  HashedBy-from [] =
      let none : finite.entries (finite.empty {X = V} {R = bytes_cmp}) ≡ [] =
      nil_from_length _ (sym (len-entries (finite.empty {X = V} {R = bytes_cmp})) ∙ len-empty bytes_cmp V) in
      subst (HashedBy f) (sym none) tt
  HashedBy-from (e ∷ es) =
      let m = finite.from_entries {R = bytes_cmp} (with_path f es) in
      subst (HashedBy f) (sym (entries-insert nat_list_cmp_total m (path f e.0) e.1)) (HashedBy-put f e.0 e.1 (finite.entries m) (HashedBy-from es))

  pub HashedBy-by_path : (m : finite.FinMap bytes_cmp V) → HashedBy f (by_path f m)
  HashedBy-by_path m = HashedBy-from (finite.entries m)

  -- a key is found at its path
  pub find-by_path : (m : finite.FinMap bytes_cmp V) (q : List ℕ) → find bytes_cmp (path f q) (by_path f m) ≡ finite.get m q
  find-by_path m q =
      let es = with_path f (finite.entries m) in
      sym (get-entries (finite.from_entries {R = bytes_cmp} es) (path f q)) ∙ get-from_entries nat_list_cmp_total es (path f q)
      ∙ find-with_path f q (finite.entries m) ∙ sym (get-entries m q)

  at_path : (es : List (List ℕ × V)) → HashedBy f es → All (λ e. e.0 ≡ path f (key_of e.0)) es
  at_path [] h = All-nil (λ e. e.0 ≡ path f (key_of e.0))
  at_path (e ∷ es) h = All-cons (λ e. e.0 ≡ path f (key_of e.0)) e es h.0 (at_path es h.1)

  -- the map has each entry of its walk
  pub walk_found : (m : finite.FinMap bytes_cmp V) → All (λ e. finite.get m e.0 ≡ Some e.1) (walk f m)
  walk_found m =
      let es = by_path f m in
      let found = each_found es (entries_sorted (finite.from_entries {R = bytes_cmp} (with_path f (finite.entries m)))) in
      let at = at_path es (HashedBy-by_path m) in
      All-map (λ e. finite.get m e.0 ≡ Some e.1) (λ e. (key_of e.0, e.1)) es
      (λ k d l. sym (find-by_path m (key_of (get_or es k d).0)) ∙ ap (λ w. find bytes_cmp w es) (sym (at k d l)) ∙ found k d l)

  found_key : (q : List ℕ) (v : V) (es : List (List ℕ × V)) → HashedBy f es → find bytes_cmp (path f q) es ≡ Some v → Contains (by_key 7 es) (q, v)
  found_key q v [] h e = absurd cc
  found_key q v (x ∷ es) h e = step (eq_by_cmp bytes_cmp (path f q) x.0) refl e (found_key q v es h.1)
    where
      step : (b : Bool) → eq_by_cmp bytes_cmp (path f q) x.0 ≡ b → cond b (Some x.1) (find bytes_cmp (path f q) es) ≡ Some v
          → (find bytes_cmp (path f q) es ≡ Some v → Contains (by_key 7 es) (q, v)) → Contains (by_key 7 (x ∷ es)) (q, v)
      step true t s rest =
          let key : key_of x.0 ≡ q = ap key_of (sym (tied_same (path f q) x.0 t)) ∙ key_in-word 7 (f q) q in
          let value = same_Some x.1 v s in
          (0, omega arith, λ i. (key i, value i))
      step false t s rest = one_later (key_of x.0, x.1) (q, v) (by_key 7 es) (rest s)

  -- and its walk has each key that it has
  pub walk_has : (m : finite.FinMap bytes_cmp V) (q : List ℕ) (v : V) → finite.get m q ≡ Some v → Contains (walk f m) (q, v)
  walk_has m q v e = found_key q v (by_path f m) (HashedBy-by_path m) (find-by_path m q ∙ e)

-- ---- the part under a prefix

drop_more : (n : ℕ) (w : List ℕ) → drop n (drop 1 w) ≡ drop (suc n) w
drop_more zero [] = refl
drop_more (suc n) [] = refl
drop_more n (x ∷ w) = refl

module _ {V : Type 0} where
  filter_all : (es : List (List ℕ × V)) → filter (λ e. true) es ≡ es
  filter_all [] = refl
  filter_all (e ∷ es) = ap (λ l. e ∷ l) (filter_all es)

  one_index : (i : ℕ) (p : List ℕ) (b : ℕ) (es : List (List ℕ × V)) → by_key b (filter (λ e. begins p e.0) (under_index i es))
      ≡ by_key (suc b) (filter (λ e. begins (i ∷ p) e.0) es)
  one_index i p b [] = refl
  one_index i p b (e ∷ es) = step (nat_eq i (get_or e.0 0 0)) (begins p (drop 1 e.0)) refl (one_index i p b es)
    where
      whole : List (List ℕ × V)
      whole = filter (λ e. begins (i ∷ p) e.0) es

      part : List (List ℕ × V)
      part = filter (λ e. begins p e.0) (under_index i es)

      step : (t u : Bool) → begins p (drop 1 e.0) ≡ u → by_key b part ≡ by_key (suc b) whole
          → by_key b (filter (λ e. begins p e.0) (cond t ((drop 1 e.0, e.1) ∷ under_index i es) (under_index i es)))
          ≡ by_key (suc b) (cond (cond t (begins p (drop 1 e.0)) false) (e ∷ whole) whole)
      step false u q rest = rest
      step true true q rest =
          ap (λ u. by_key b (cond u ((drop 1 e.0, e.1) ∷ part) part)) q ∙ (λ k. (drop_more (suc b) e.0 k, e.1) ∷ rest k)
          ∙ ap (λ u. by_key (suc b) (cond u (e ∷ whole) whole)) (sym q)
      step true false q rest =
          ap (λ u. by_key b (cond u ((drop 1 e.0, e.1) ∷ part) part)) q ∙ rest ∙ ap (λ u. by_key (suc b) (cond u (e ∷ whole) whole)) (sym q)

  part_is : (p : List ℕ) (height : ℕ) (es : List (List ℕ × V)) → length p ≤ height
      → by_key (height - length p) (under_prefix p es) ≡ by_key height (filter (λ e. begins p e.0) es)
  part_is [] height es h = let same : height - 0 ≡ height = omega arith in ap (λ k. by_key k es) same ∙ ap (by_key height) (sym (filter_all es))
  part_is (i ∷ p) zero es h = absurd (omega arith)
  part_is (i ∷ p) (suc b) es h =
      let same : suc b - suc (length p) ≡ b - length p = omega arith in
      ap (λ k. by_key k (under_prefix p (under_index i es))) same ∙ part_is p b (under_index i es) (omega arith) ∙ one_index i p b es

module _ {V : Type 0} (f : List ℕ → ℕ) where
  keyed_part : (p : List ℕ) (es : List (List ℕ × V)) → HashedBy f es → filter (λ e. begins p (path f e.0)) (by_key 7 es)
      ≡ by_key 7 (filter (λ e. begins p e.0) es)
  keyed_part p [] h = refl
  keyed_part p (e ∷ es) h = step (begins p e.0) (ap (begins p) (sym h.0)) (keyed_part p es h.1)
    where
      whole : List (List ℕ × V)
      whole = filter (λ e. begins p e.0) es

      step : (t : Bool) → begins p (path f (key_of e.0)) ≡ t → filter (λ e. begins p (path f e.0)) (by_key 7 es) ≡ by_key 7 whole
          → cond (begins p (path f (key_of e.0))) ((key_of e.0, e.1) ∷ filter (λ e. begins p (path f e.0)) (by_key 7 es))
          (filter (λ e. begins p (path f e.0)) (by_key 7 es)) ≡ by_key 7 (cond t (e ∷ whole) whole)
      step true q rest = (λ k. cond (q k) ((key_of e.0, e.1) ∷ rest k) (rest k))
      step false q rest = (λ k. cond (q k) ((key_of e.0, e.1) ∷ rest k) (rest k))

  -- the part of the walk is the entries by path under the prefix
  pub walk_under_is : (p : List ℕ) (es : List (List ℕ × V)) → length p ≤ 7 → HashedBy f es → T (is_sorted bytes_cmp es)
      → walk_under f p (as_map es) ≡ by_key (7 - length p) (under_prefix p es)
  walk_under_is p es short h s = ap (filter (λ e. begins p (path f e.0))) (walk_is f es h s) ∙ keyed_part p es h ∙ sym (part_is p 7 es short)

  -- and so are those of any map
  pub walk_part : (p : List ℕ) (m : finite.FinMap bytes_cmp V) → length p ≤ 7 → walk_under f p m ≡ by_key (7 - length p) (under_prefix p (by_path f m))
  walk_part p m short = keyed_part p (by_path f m) (HashedBy-by_path f m) ∙ sym (part_is p 7 (by_path f m) short)

-- ---- what it is to begin with a prefix

same_first : (i j : ℕ) (p q : List ℕ) → i ∷ p ≡ j ∷ q → (i ≡ j) × (p ≡ q)
same_first i j p q e = (ap (λ l. get_or l 0 i) e, ap (drop 1) e)

begins-front : (p q w : List ℕ) → length p ≡ length q → (begins p (q ++ w) ≡ true) ↔ (q ≡ p)
begins-front [] [] w n = (λ t. refl, λ e. refl)
begins-front [] (j ∷ q) w n = absurd (omega (arith, n))
begins-front (i ∷ p) [] w n = absurd (omega (arith, n))
begins-front (i ∷ p) (j ∷ q) w n =
    let rest = begins-front p q w (omega (arith, n)) in
    let here : (b : Bool) → nat_eq i j ≡ b → cond b (begins p (q ++ w)) false ≡ true → j ∷ q ≡ i ∷ p = λ b.
    elim b as (λ b. nat_eq i j ≡ b → cond b (begins p (q ++ w)) false ≡ true → j ∷ q ≡ i ∷ p) [
      | true ↦ λ s t k. sym (eqb-true i j s) k ∷ rest.0 t k
      | false ↦ λ s t. absurd cc
    ] in (
      here (nat_eq i j) refl,
      λ e. let both = same_first j i q p e in ap (λ b. cond b (begins p (q ++ w)) false) (eq-eqb i j (sym both.0)) ∙ rest.1 both.1,
    )

-- a key's path begins with a prefix exactly where the indices of its hash do
pub begins-path : (f : List ℕ → ℕ) (p key : List ℕ) → length p ≤ 7 → (begins p (path f key) ≡ true) ↔ (indices (length p) (f key) ≡ p)
begins-path f p key short =
    let d = length p in
    let r = 7 - length p in
    let is : path f key ≡ indices d (f key) ++ word r (f key) key = path_begins f d r key (omega arith) in
    subst (λ w. (begins p w ≡ true) ↔ (indices d (f key) ≡ p)) (sym is)
    (begins-front p (indices d (f key)) (word r (f key) key) (sym (length-indices d (f key))))

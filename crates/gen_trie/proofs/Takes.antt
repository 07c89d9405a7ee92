-- What taking an entry out of the slots of a branch leaves.
use Rattle.std.proofs.Common.{◌≡◌, ◌≢◌, ℕ, suc, ◌-◌, ◌*◌, ◌%◌, ◌^◌, ◌<◌, ◌≤◌, List, [], ◌∷◌, ◌++◌, length, take, drop, set, Bool, true, false, not, cond, T}
use Rattle.std.proofs.Common.{Some, None, arith, refl, sym, ◌∙◌, ap, subst}
use Rattle.std.specs.Prelude.{is_some, OnOk, OnErr, MatchOption}
use Rattle.std.proofs.Common.{Ok, Err}
use Rattle.std.specs.List.{All, remove, take-map, drop-map}
use Rattle.std.specs.declared.option.Option.{Option}
use Rattle.std.specs.declared.result.Result.{Result}
use Rattle.std.specs.declared.sync.Arc.{Arc}
use Rattle.std.specs.Ordering.{eq_by_cmp}
use Rattle.std.specs.FinMap.Entries.{find, is_sorted}
use Rattle.std.proofs.lemmas.List.{map-append, map-set, length-map}
use Rattle.std.proofs.lemmas.List.Elements.{All-set, All-append, All-take, All-drop}
use Rattle.std.proofs.lemmas.Nat.{one_shl}
use Rattle.dots.specs.Bytes.{bytes_cmp}
use Rattle.hash_path.specs.Word.{digit, word, AllWords}
use Rattle.hash_path.specs.Cut.{cut, without, spot}
use Rattle.hash_path.specs.Fan.{fan, at, there, put_child, bits_of, Rise}
use Rattle.hash_path.proofs.Finding.{find-fan}
use Rattle.hash_path.proofs.Cutting.{cut-fan, fan-without, remove_there, Rise-without, bits_without, AllWords-cut, length-cut, sorted-at, remove_spot, cut_past}
use Rattle.hash_path.proofs.MapCuts.{cut_first, cut_second}
use Rattle.hash_path.proofs.Places.{set_there, bits_there, Rise-put_child, at_absent}
use Rattle.hash_path.proofs.Words.{tied-word}
use Rattle.gen_trie.specs.declared.entry.Entry.{Entry}
use Rattle.gen_trie.specs.declared.node.Slot.{Slot}
use Rattle.gen_trie.specs.Shapes.{children, child, entry_at, listed, StandsBelow, IsBranch, IsSeat}

-- ---- of two entries the other

pub other_first : {V A : Type 0} (h hash : ℕ) (key : List ℕ) (a b x : Entry V A) → x ≡ a → true ≡ eq_by_cmp bytes_cmp (hash ∷ key) (x.hash ∷ x.key)
    → T (is_sorted bytes_cmp (entry_at h a ∷ entry_at h b ∷ [])) → cut (word h hash key) (entry_at h a ∷ entry_at h b ∷ []) ≡ entry_at h b ∷ []
other_first h hash key a b x q t s =
    cut_first (word h hash key) (entry_at h a) (entry_at h b) s
    (tied-word h hash a.hash key a.key ∙ sym (subst (λ y. true ≡ eq_by_cmp bytes_cmp (hash ∷ key) (y.hash ∷ y.key)) q t))

pub other_second : {V A : Type 0} (h hash : ℕ) (key : List ℕ) (a b x : Entry V A) → x ≡ a → false ≡ eq_by_cmp bytes_cmp (hash ∷ key) (x.hash ∷ x.key)
    → is_some (find bytes_cmp (word h hash key) (entry_at h a ∷ entry_at h b ∷ [])) ≡ true
    → cut (word h hash key) (entry_at h a ∷ entry_at h b ∷ []) ≡ entry_at h a ∷ []
other_second h hash key a b x q t f =
    cut_second (word h hash key) (entry_at h a) (entry_at h b)
    (tied-word h hash a.hash key a.key ∙ sym (subst (λ y. false ≡ eq_by_cmp bytes_cmp (hash ∷ key) (y.hash ∷ y.key)) q t)) f

-- ---- the seat of a key that is there

pub left_none : {X : Type 0} {P : Type 0} (Q : X → Type 0) (r : Option X) → r ≡ None → MatchOption r P Q → P
left_none Q None e h = h
left_none Q (Some x) e h = cc

no_entry : {V : Type 0} (w : List ℕ) (es : List (List ℕ × V)) → es ≡ [] → is_some (find bytes_cmp w es) ≡ true → (X : Type 0) → X
no_entry w es e f X = let none = ap (λ l. is_some (find bytes_cmp w l)) (sym e) ∙ f in cc

module _ {V : Type 0} (below : ℕ) (hash : ℕ) (key : List ℕ) where
  pub cut_only : (e : List ℕ × V) → is_some (find bytes_cmp (word below hash key) (e ∷ [])) ≡ true
      → ◌≡◌ {A = List (List ℕ × V)} (cut (word below hash key) (e ∷ [])) []
  cut_only e f = by (eq_by_cmp bytes_cmp (word below hash key) e.0) f
    where
      by : (t : Bool) → is_some {T = V} (cond t (Some e.1) None) ≡ true → ◌≡◌ {A = List (List ℕ × V)} (cond (not t) (e ∷ []) []) []
      by true g = refl
      by false g = cc

  -- two keys or more are left of a node of three or more
  pub two_left : {E : Type 0} (r : Result (Unit {0}) E) (n m : ℕ × List (List ℕ × V)) → OnOk r (n ≡ (m.0, cut (word m.0 hash key) m.1)) → OnErr r (n ≡ m)
      → (m.0 ≡ below) × (2 ≤ length m.1) → length m.1 ≢ 2 → T (is_sorted bytes_cmp m.1) → is_some (find bytes_cmp (word m.0 hash key) m.1) ≡ true
      → (n.0 ≡ below) × (2 ≤ length n.1)
  two_left (Ok x) n m ok err h two sorted f =
      (ap (λ y. y.0) ok ∙ h.0, let fewer = length-cut (word m.0 hash key) m.1 sorted f in let same = ap (λ y. length y.1) ok in let many = h.1 in omega arith)
  two_left (Err x) n m ok err h two sorted f = (ap (λ y. y.0) err ∙ h.0, subst (λ y. 2 ≤ length y.1) (sym err) h.1)

module _ {V M A : Type 0} (below : ℕ) (hash : ℕ) (key : List ℕ) where
  pub found_at : (m : ℕ) (ss : List (Slot V M A)) → IsBranch below m ss → is_some (find bytes_cmp (word (suc below) hash key) (fan (children below ss))) ≡ true
      → is_some (find bytes_cmp (word below hash key) (at (digit below hash) (children below ss))) ≡ true
  found_at m ss b f = ap is_some (sym (find-fan 0 (digit below hash) (word below hash key) (children below ss) b.rise)) ∙ f

  pub taken_there : (m count j n : ℕ) (t : Bool) (ss : List (Slot V M A)) → IsBranch below m ss → IsSeat (digit below hash) (children below ss) count j n t
      → is_some (find bytes_cmp (word (suc below) hash key) (fan (children below ss))) ≡ true → t ≡ true
  taken_there m count j n t ss b seat f = by (there (digit below hash) (children below ss)) refl
    where
      by : (r : Bool) → there (digit below hash) (children below ss) ≡ r → t ≡ true
      by true e = seat.taken_is ∙ e
      by false e = no_entry (word below hash key) (at (digit below hash) (children below ss)) (at_absent (digit below hash) (children below ss) e)
          (found_at m ss b f) _

  pub cut_one : (m : ℕ) (ss : List (Slot V M A)) (s : Slot V M A) (e : Entry V A) → IsBranch below m ss
      → is_some (find bytes_cmp (word (suc below) hash key) (fan (children below ss))) ≡ true
      → child below s ≡ (digit below hash, at (digit below hash) (children below ss)) → (child below s).1 ≡ entry_at below e ∷ []
      → cut (word below hash key) (at (digit below hash) (children below ss)) ≡ []
  cut_one m ss s e b f here one =
      let is : at (digit below hash) (children below ss) ≡ entry_at below e ∷ [] = sym (ap (λ c. c.1) here) ∙ one in
      ap (cut (word below hash key)) is ∙ cut_only below hash key (entry_at below e)
      (subst (λ l. is_some (find bytes_cmp (word below hash key) l) ≡ true) is (found_at m ss b f))

  -- ---- a child that goes

  map_remove : (ss : List (Slot V M A)) (n : ℕ) → children below (remove ss n) ≡ remove (children below ss) n
  map_remove ss n =
      map-append (child below) (take n ss) (drop (suc n) ss) ∙ (λ i. sym (take-map (child below) n ss) i ++ sym (drop-map (child below) (suc n) ss) i)

  pub bit_there : (m count j n : ℕ) (t : Bool) (ss : List (Slot V M A)) → IsBranch below m ss → IsSeat (digit below hash) (children below ss) count j n t
      → t ≡ true → 1 * 2 ^ j % 4294967296 ≤ m
  bit_there m count j n t ss b seat taken =
      let i = digit below hash in
      let yes : there i (children below ss) ≡ true = sym seat.taken_is ∙ taken in
      let less : j < 32 = subst (λ k. k < 32) (sym seat.index_is) seat.bound in
      let bits = bits_without i (children below ss) yes in
      let same = b.bitmap_is in
      let shift : 1 * 2 ^ j % 4294967296 ≡ 2 ^ i = one_shl j 32 less ∙ ap (λ k. 2 ^ k) seat.index_is in
      omega arith

  pub drop_is : (m count j n : ℕ) (t : Bool) (ss ts : List (Slot V M A)) → IsBranch below m ss
      → IsSeat (digit below hash) (children below ss) count j n t → t ≡ true
      → cut (word below hash key) (at (digit below hash) (children below ss)) ≡ [] → ts ≡ remove ss n
      → (fan (children below ts) ≡ cut (word (suc below) hash key) (fan (children below ss))) × IsBranch below (m - 1 * 2 ^ j % 4294967296) ts
  drop_is m count j n t ss ts b seat taken none is =
      let i = digit below hash in
      let w = word below hash key in
      let cs = children below ss in
      let yes : there i cs ≡ true = sym seat.taken_is ∙ taken in
      let less : j < 32 = subst (λ k. k < 32) (sym seat.index_is) seat.bound in
      let child_is : children below ts ≡ without i cs = ap (children below) is ∙ map_remove ss n ∙ ap (remove cs) seat.position_is ∙ remove_there i cs yes in
      let entries : fan (children below ts) ≡ cut (i ∷ w) (fan cs) =
      ap fan child_is ∙ sym (fan-without i cs yes) ∙ ap (λ es. fan (put_child i es cs)) (sym none) ∙ sym (cut-fan i w 0 cs b.rise yes) in
      let bits = bits_without i cs yes in
      let same = b.bitmap_is in
      let shift : 1 * 2 ^ j % 4294967296 ≡ 2 ^ i = one_shl j 32 less ∙ ap (λ k. 2 ^ k) seat.index_is in
      let left : m - 1 * 2 ^ j % 4294967296 ≡ bits_of (without i cs) = omega arith in (
        entries,
        record {
          height = b.height;
          bitmap_is = left ∙ ap bits_of (sym child_is);
          rise = subst (Rise 0) (sym child_is) (Rise-without i 0 cs b.rise);
          fits = subst (All (StandsBelow below)) (sym is)
              (All-append (StandsBelow below) (take n ss) (drop (suc n) ss) (All-take (StandsBelow below) n ss b.fits)
              (All-drop (StandsBelow below) (suc n) ss b.fits));
          words = subst (AllWords (suc below)) (sym entries) (AllWords-cut (suc below) (i ∷ w) (fan cs) b.words);
        },
      )

  -- ---- a child that stays

  pub cut_old_is : (m count j n : ℕ) (t : Bool) (s s' : Slot V M A) (ss ts : List (Slot V M A)) → IsBranch below m ss
      → IsSeat (digit below hash) (children below ss) count j n t → t ≡ true
      → child below s ≡ (digit below hash, at (digit below hash) (children below ss)) → ts ≡ set ss n s'
      → child below s' ≡ ((child below s).0, cut (word below hash key) (child below s).1) → StandsBelow below s'
      → (fan (children below ts) ≡ cut (word (suc below) hash key) (fan (children below ss))) × IsBranch below m ts
  cut_old_is m count j n t s s' ss ts b seat taken here is new fits =
      let i = digit below hash in
      let w = word below hash key in
      let cs = children below ss in
      let yes : there i cs ≡ true = sym seat.taken_is ∙ taken in
      let seen : child below s' ≡ (i, cut w (at i cs)) = new ∙ (λ k. ((here k).0, cut w (here k).1)) in
      let child_is : children below ts ≡ put_child i (cut w (at i cs)) cs =
      ap (children below) is ∙ map-set (child below) ss n s' ∙ (λ k. set cs (seat.position_is k) (seen k)) ∙ set_there i (cut w (at i cs)) cs yes in
      let entries : fan (children below ts) ≡ cut (i ∷ w) (fan cs) = ap fan child_is ∙ sym (cut-fan i w 0 cs b.rise yes) in (
        entries,
        record {
          height = b.height;
          bitmap_is = b.bitmap_is ∙ sym (bits_there i (cut w (at i cs)) cs yes) ∙ ap bits_of (sym child_is);
          rise = subst (Rise 0) (sym child_is) (Rise-put_child 0 i (cut w (at i cs)) cs (omega arith) seat.bound b.rise);
          fits = subst (All (StandsBelow below)) (sym is) (All-set (StandsBelow below) ss n s' fits b.fits);
          words = subst (AllWords (suc below)) (sym entries) (AllWords-cut (suc below) (i ∷ w) (fan cs) b.words);
        },
      )

  -- what the child at the index gives to be taken from
  pub child_gives : {X : Type 0} (m : ℕ) (ss : List (Slot V M A)) (s : Slot V M A) (r : Option X) (e : X → Entry V A) → IsBranch below m ss
      → T (is_sorted bytes_cmp (fan (children below ss)))
      → is_some (find bytes_cmp (word (suc below) hash key) (fan (children below ss))) ≡ true
      → (child below s ≡ (digit below hash, at (digit below hash) (children below ss))) × StandsBelow below s
      → MatchOption r (StandsBelow below s → 2 ≤ length (child below s).1) (λ x. (child below s).1 ≡ entry_at below (e x) ∷ []) → is_some r ≡ false
      → (2 ≤ length (child below s).1) × T (is_sorted bytes_cmp (child below s).1) × (is_some (find bytes_cmp (word below hash key) (child below s).1) ≡ true)
  child_gives m ss s None e b sorted f here h t =
      let is = ap (λ c. c.1) here.0 in (
        h here.1,
        subst (λ l. T (is_sorted bytes_cmp l)) (sym is) (sorted-at (digit below hash) (children below ss) sorted),
        subst (λ l. is_some (find bytes_cmp (word below hash key) l) ≡ true) (sym is) (found_at m ss b f),
      )
  child_gives m ss s (Some x) e b sorted f here h t = cc

  pub one_gives : {X : Type 0} (m : ℕ) (ss : List (Slot V M A)) (s : Slot V M A) (r : Option X) (e : X → Entry V A) → IsBranch below m ss
      → is_some (find bytes_cmp (word (suc below) hash key) (fan (children below ss))) ≡ true
      → child below s ≡ (digit below hash, at (digit below hash) (children below ss))
      → MatchOption r (StandsBelow below s → 2 ≤ length (child below s).1) (λ x. (child below s).1 ≡ entry_at below (e x) ∷ []) → is_some r ≡ true
      → cut (word below hash key) (at (digit below hash) (children below ss)) ≡ []
  one_gives m ss s None e b f here h t = cc
  one_gives m ss s (Some x) e b f here h t = cut_one m ss s (e x) b f here h

-- ---- a list

module _ {V A : Type 0} where
  pub list_cut : (n : ℕ) (w : List ℕ) (es ts : List (Arc (Entry V A) A)) → T (is_sorted bytes_cmp (listed es)) → n ≡ spot w (listed es) → n < length es
      → ts ≡ remove es n
      → listed ts ≡ cut w (listed es)
  list_cut n w es ts s p h is =
      let f = λ (x : Arc (Entry V A) A). entry_at 0 x.value in
      let within : spot w (listed es) < length (listed es) = subst (λ k. k < length (listed es)) p (subst (λ k. n < k) (sym (length-map es f)) h) in
      ap listed is ∙ map-append f (take n es) (drop (suc n) es) ∙ (λ i. sym (take-map f n es) i ++ sym (drop-map f (suc n) es) i) ∙ ap (remove (listed es)) p
      ∙ remove_spot w (listed es) s within

  pub list_kept : (n : ℕ) (w : List ℕ) (es : List (Arc (Entry V A) A)) → n ≡ spot w (listed es) → length es ≤ n → listed es ≡ cut w (listed es)
  list_kept n w es p h =
      let f = λ (x : Arc (Entry V A) A). entry_at 0 x.value in
      sym (cut_past w (listed es) (subst (λ k. length (listed es) ≤ k) p (subst (λ k. k ≤ n) (sym (length-map es f)) h)))

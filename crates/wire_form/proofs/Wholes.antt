-- Values that all of the bytes spell.
use Rattle.std.proofs.Common.{◌≡◌, ℕ, ◌<◌, true, false, List, [], ◌∷◌, ◌++◌, length, refl, sym, ap, ◌∙◌, append_assoc, arith, eqb, length-append}
use Rattle.std.specs.List.{flat_map, AllByRecursion}
use Rattle.std.proofs.lemmas.Bool.{eqb-true}
use Rattle.std.proofs.lemmas.List.{append-nil}
use Rattle.std.proofs.lemmas.List.Concat.{flat_map-append}
use Rattle.wire_form.specs.Spelling.{IsWhole, Begins, HasNoSpelling}
use Rattle.wire_form.specs.Unique.{IsUnique, HasBytes}

module _ {V : Type 0} (spell : V → List ℕ) (Fits : V → Type 0) where
  -- bytes spell one value at most
  abbrev pub IsOneWhole : Type 0
  IsOneWhole = (bytes : List ℕ) (v w : V) → IsWhole spell Fits bytes v → IsWhole spell Fits bytes w → v ≡ w

  pub whole_spelled : (bytes : List ℕ) (v : V) (rest : List ℕ) → Begins spell Fits bytes v rest → true ≡ eqb (length rest) 0 → IsWhole spell Fits bytes v
  whole_spelled bytes v (x ∷ xs) read e = absurd (omega (arith, eqb-true (length (x ∷ xs)) 0 (sym e)))
  whole_spelled bytes v [] read e = record { fits = read.fits; spelling = read.parts ∙ append-nil (spell v) }

  pub none_whole : (bytes : List ℕ) → HasNoSpelling spell Fits bytes → (v : V) → IsWhole spell Fits bytes v → ⊥
  none_whole bytes none v h = none v [] (record { fits = h.fits; parts = h.spelling ∙ sym (append-nil (spell v)) })

  pub one_whole : IsUnique spell Fits → IsOneWhole
  one_whole unique bytes v w p q = (unique v w [] [] p.fits q.fits (append-nil (spell v) ∙ sym p.spelling ∙ q.spelling ∙ sym (append-nil (spell w)))).0

  pub none_whole_end : IsUnique spell Fits → (bytes : List ℕ) (v : V) (rest : List ℕ) → Begins spell Fits bytes v rest → false ≡ eqb (length rest) 0 → (w : V)
      → IsWhole spell Fits bytes w → ⊥
  none_whole_end unique bytes v rest read more w h =
      let same = unique v w rest [] read.fits h.fits (sym read.parts ∙ h.spelling ∙ sym (append-nil (spell w))) in
      let nothing : eqb (length rest) 0 ≡ true = ap (λ (r : List ℕ). eqb (length r) 0) same.1 in
      absurd (cc (more, nothing))

pub some_bytes : (xs : List ℕ) → false ≡ eqb (length xs) 0 → 0 < length xs
some_bytes [] e = absurd (cc e)
some_bytes (x ∷ xs) e = omega arith

-- ---- items up to the end of the bytes

module _ {X : Type 0} (item : X → List ℕ) (Item : X → Type 0) where
  all_push : (xs : List X) (x : X) → AllByRecursion Item xs → Item x → AllByRecursion Item (xs ++ x ∷ [])
  all_push [] x p q = (q, tt)
  all_push (y ∷ ys) x p q = (p.0, all_push ys x p.1 q)

  pub items_none : (bytes : List ℕ) → Begins (flat_map item) (AllByRecursion Item) bytes [] bytes
  items_none bytes = record { fits = tt; parts = refl }

  pub items_more : (bytes : List ℕ) (xs : List X) (rest : List ℕ) (x : X) (after : List ℕ) → Begins (flat_map item) (AllByRecursion Item) bytes xs rest
      → Begins item Item rest x after
      → Begins (flat_map item) (AllByRecursion Item) bytes (xs ++ x ∷ []) after
  items_more bytes xs rest x after read here = record {
    fits = all_push xs x read.fits here.fits;
    parts = read.parts ∙ ap (λ (t : List ℕ). flat_map item xs ++ t) here.parts ∙ sym (append_assoc (flat_map item xs) (item x) after)
        ∙ ap (λ (t : List ℕ). (flat_map item xs ++ t) ++ after) (sym (append-nil (item x)))
        ∙ ap (λ (t : List ℕ). t ++ after) (sym (flat_map-append item xs (x ∷ [])));
  }

  module _ (starts : HasBytes item Item) where
    -- what stands behind an item is shorter
    pub items_shorter : (rest : List ℕ) (x : X) (after : List ℕ) → Begins item Item rest x after → length after < length rest
    items_shorter rest x after here = omega (arith, starts x here.fits, ap length here.parts, length-append (item x) after)

    module _ (one : IsUnique item Item) where
      -- what stands behind some first items, up to the end, begins with an item or is empty
      begins_behind : (xs ys : List X) (rest : List ℕ) → AllByRecursion Item xs → AllByRecursion Item ys → flat_map item xs ++ rest ≡ flat_map item ys
          → 0 < length rest
          → (y : X) × (more : List ℕ) × Begins item Item rest y more
      begins_behind [] [] rest p q e more = absurd (omega (arith, ap length e))
      begins_behind [] (y ∷ ys) rest p q e more = (y, flat_map item ys, record { fits = q.0; parts = e })
      begins_behind (x ∷ xs) [] rest p q e more =
          absurd (omega (arith, starts x p.0, ap length e, length-append (item x ++ flat_map item xs) rest, length-append (item x) (flat_map item xs)))
      begins_behind (x ∷ xs) (y ∷ ys) rest p q e more =
          let first = one x y (flat_map item xs ++ rest) (flat_map item ys) p.0 q.0 (sym (append_assoc (item x) (flat_map item xs) rest) ∙ e) in
          begins_behind xs ys rest p.1 q.1 first.1 more

      pub none_items : (bytes : List ℕ) (xs : List X) (rest : List ℕ) → Begins (flat_map item) (AllByRecursion Item) bytes xs rest → 0 < length rest
          → HasNoSpelling item Item rest
          → (ys : List X) → IsWhole (flat_map item) (AllByRecursion Item) bytes ys → ⊥
      none_items bytes xs rest read more none ys h =
          let b = begins_behind xs ys rest read.fits h.fits (sym read.parts ∙ h.spelling) more in
          none b.0 b.1 b.2

      same_items : (xs ys : List X) → AllByRecursion Item xs → AllByRecursion Item ys → flat_map item xs ≡ flat_map item ys → xs ≡ ys
      same_items [] [] p q e = refl
      same_items [] (y ∷ ys) p q e = absurd (omega (arith, starts y q.0, ap length e, length-append (item y) (flat_map item ys)))
      same_items (x ∷ xs) [] p q e = absurd (omega (arith, starts x p.0, ap length e, length-append (item x) (flat_map item xs)))
      same_items (x ∷ xs) (y ∷ ys) p q e =
          let first = one x y (flat_map item xs) (flat_map item ys) p.0 q.0 e in
          let others = same_items xs ys p.1 q.1 first.1 in
          λ i. first.0 i ∷ others i

      pub one_list : IsOneWhole (flat_map item) (AllByRecursion Item)
      one_list bytes xs ys p q = same_items xs ys p.fits q.fits (sym p.spelling ∙ q.spelling)

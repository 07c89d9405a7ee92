-- Items one after another, and behind their count.
use Rattle.std.proofs.Common.{◌≡◌, ℕ, ◌<◌, ◌≤◌, ◌+◌, List, [], ◌∷◌, ◌++◌, length, refl, sym, ap, subst, ◌∙◌, append_assoc, arith, length-append}
use Rattle.std.specs.List.{flat_map, AllByRecursion}
use Rattle.std.proofs.lemmas.List.{append-nil}
use Rattle.std.proofs.lemmas.List.Concat.{flat_map-append}
use Rattle.wire_form.specs.Spelling.{number, IsNumber, counted, AreCounted, Begins, HasNoSpelling}
use Rattle.wire_form.specs.Unique.{IsUnique, number_unique}

module _ {X : Type 0} (item : X → List ℕ) (Item : X → Type 0) where
  -- a list of items, of this length
  abbrev pub AreSo : ℕ → List X → Type 0
  AreSo n xs = (length xs ≡ n) × AllByRecursion Item xs

  all-append : (xs ys : List X) → AllByRecursion Item xs → AllByRecursion Item ys → AllByRecursion Item (xs ++ ys)
  all-append [] ys p q = q
  all-append (x ∷ xs) ys p q = (p.0, all-append xs ys p.1 q)

  -- ---- reading on

  pub none_read : (bytes : List ℕ) → Begins (flat_map item) (AreSo 0) bytes [] bytes
  none_read bytes = record { fits = (refl, tt); parts = refl }

  pub one_more : (bytes : List ℕ) (i : ℕ) (xs : List X) (rest : List ℕ) (x : X) (after : List ℕ) → Begins (flat_map item) (AreSo i) bytes xs rest
      → Begins item Item rest x after
      → Begins (flat_map item) (AreSo (i + 1)) bytes (xs ++ x ∷ []) after
  one_more bytes i xs rest x after read here = record {
    fits = (omega (arith, read.fits.0, length-append xs (x ∷ [])), all-append xs (x ∷ []) read.fits.1 (here.fits, tt));
    parts = read.parts ∙ ap (λ (t : List ℕ). flat_map item xs ++ t) here.parts ∙ sym (append_assoc (flat_map item xs) (item x) after)
        ∙ ap (λ (t : List ℕ). (flat_map item xs ++ t) ++ after) (sym (append-nil (item x)))
        ∙ ap (λ (t : List ℕ). t ++ after) (sym (flat_map-append item xs (x ∷ [])));
  }

  module _ (one : IsUnique item Item) where
    -- what stands behind some first items of a longer list begins with an item
    behind : (xs ys : List X) (rest end : List ℕ) → AllByRecursion Item xs → AllByRecursion Item ys → length xs < length ys
        → flat_map item xs ++ rest ≡ flat_map item ys ++ end
        → (y : X) × (more : List ℕ) × Begins item Item rest y more
    behind xs [] rest end p q l e = absurd (omega arith)
    behind [] (y ∷ ys) rest end p q l e = (y, flat_map item ys ++ end, record { fits = q.0; parts = e ∙ append_assoc (item y) (flat_map item ys) end })
    behind (x ∷ xs) (y ∷ ys) rest end p q l e =
        let first = one x y (flat_map item xs ++ rest) (flat_map item ys ++ end) p.0 q.0
        (sym (append_assoc (item x) (flat_map item xs) rest) ∙ e ∙ append_assoc (item y) (flat_map item ys) end) in
        behind xs ys rest end p.1 q.1 (omega arith) first.1

    pub none_more : (bytes : List ℕ) (i n : ℕ) (xs : List X) (rest : List ℕ) → Begins (flat_map item) (AreSo i) bytes xs rest → i < n
        → HasNoSpelling item Item rest
        → HasNoSpelling (flat_map item) (AreSo n) bytes
    none_more bytes i n xs rest read l none ys end h =
        let b = behind xs ys rest end read.fits.1 h.fits.1 (omega (arith, read.fits.0, h.fits.0)) (sym read.parts ∙ h.parts) in
        none b.0 b.1 b.2

  -- ---- behind a count

  -- the items behind the count n
  at_count : (bytes : List ℕ) (n : ℕ) (rest : List ℕ) → Begins number IsNumber bytes n rest → (xs : List X) (end : List ℕ)
      → Begins (counted item) (AreCounted Item) bytes xs end
      → Begins (flat_map item) (AreSo n) rest xs end
  at_count bytes n rest read xs end h =
      let count = number_unique n (length xs) rest (flat_map item xs ++ end) read.fits h.fits.0
      (sym read.parts ∙ h.parts ∙ append_assoc (number (length xs)) (flat_map item xs) end) in
      record { fits = (sym count.0, h.fits.1); parts = count.1 }

  pub counted_begins : (bytes : List ℕ) (n : ℕ) (rest : List ℕ) (xs : List X) (end : List ℕ) → Begins number IsNumber bytes n rest
      → Begins (flat_map item) (AreSo n) rest xs end
      → Begins (counted item) (AreCounted Item) bytes xs end
  counted_begins bytes n rest xs end read each = record {
    fits = (subst IsNumber (sym each.fits.0) read.fits, each.fits.1);
    parts = read.parts ∙ ap (λ (t : List ℕ). number n ++ t) each.parts ∙ ap (λ (k : ℕ). number k ++ (flat_map item xs ++ end)) (sym each.fits.0)
        ∙ sym (append_assoc (number (length xs)) (flat_map item xs) end);
  }

  pub no_count : (bytes : List ℕ) → HasNoSpelling number IsNumber bytes → HasNoSpelling (counted item) (AreCounted Item) bytes
  no_count bytes none xs end h = none (length xs) (flat_map item xs ++ end)
      (record { fits = h.fits.0; parts = h.parts ∙ append_assoc (number (length xs)) (flat_map item xs) end })

  pub none_counted : (bytes : List ℕ) (n : ℕ) (rest : List ℕ) → Begins number IsNumber bytes n rest → HasNoSpelling (flat_map item) (AreSo n) rest
      → HasNoSpelling (counted item) (AreCounted Item) bytes
  none_counted bytes n rest read none xs end h = none xs end (at_count bytes n rest read xs end h)

  module _ (starts : (x : X) → Item x → 0 < length (item x)) where
    -- items take a byte at least, each of them
    least : (xs : List X) → AllByRecursion Item xs → length xs ≤ length (flat_map item xs)
    least [] p = omega arith
    least (x ∷ xs) p = omega (arith, starts x p.0, least xs p.1, length-append (item x) (flat_map item xs))

    pub too_many : (bytes : List ℕ) (n : ℕ) (rest : List ℕ) → Begins number IsNumber bytes n rest → length rest < n
        → HasNoSpelling (counted item) (AreCounted Item) bytes
    too_many bytes n rest read more xs end h =
        let each = at_count bytes n rest read xs end h in
        omega (arith, least xs each.fits.1, each.fits.0, ap length each.parts, length-append (flat_map item xs) end)

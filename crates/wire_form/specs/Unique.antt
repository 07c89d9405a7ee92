-- That no spelling is empty, and that no two spellings stand at the front of the same bytes: so a field has one spelling,
-- and bytes spell one value of it at most, whatever follows. Of this project.
use Rattle.std.proofs.Common.{◌≡◌, ℕ, ◌<◌, ◌≤◌, true, eqb, List, [], ◌∷◌, ◌++◌, length, take, drop, refl, sym, ap, ◌∙◌, append_assoc, arith, length-append}
use Rattle.std.specs.Int.{w16, w64, to_be_bytes, from_be_bytes}
use Rattle.std.specs.List.{flat_map, AllByRecursion}
use Rattle.std.proofs.lemmas.Bool.{eqb-true}
use Rattle.std.proofs.lemmas.List.{take_at, drop_at}
use Rattle.std.proofs.lemmas.Nat.{from_be_bytes-to_be_bytes_2, from_be_bytes-to_be_bytes_8}
use Rattle.dots.specs.Bytes.{MAX_LENGTH}
use Rattle.dots.specs.Dot.{DotValue}
use Rattle.wire_form.specs.Spelling.{number, IsNumber, pair, IsPair, counted, AreCounted}
use Rattle.causal_join.specs.OrMap.{FieldsValue}
use Rattle.wire_form.specs.Parts.{IsName, text, IsText, dot_bytes, IsDot, values_bytes, AreValues, fields_bytes, AreFields}
use Rattle.wire_form.specs.Store.{is_sole, alone, first_values, sole, AreSole}

-- no two spellings stand at the front of the same bytes
abbrev pub IsUnique : {V : Type 0} → (V → List ℕ) → (V → Type 0) → Type 0
IsUnique {V} spell Fits = (v w : V) (a b : List ℕ) → Fits v → Fits w → spell v ++ a ≡ spell w ++ b → (v ≡ w) × (a ≡ b)

-- no spelling is empty
abbrev pub HasBytes : {V : Type 0} → (V → List ℕ) → (V → Type 0) → Type 0
HasBytes {V} spell Fits = (v : V) → Fits v → 0 < length (spell v)

-- ---- one field after another

module _ {X Y : Type 0} (first : X → List ℕ) (First : X → Type 0) (second : Y → List ℕ) (Second : Y → Type 0) where
  pub pair_starts : ((x : X) → First x → 0 < length (first x)) → (p : X × Y) → IsPair First Second p → 0 < length (pair first second p)
  pair_starts starts p fits = omega (arith, starts p.0 fits.0, length-append (first p.0) (second p.1))

  pub pair_unique : IsUnique first First → IsUnique second Second → (p q : X × Y) (a b : List ℕ) → IsPair First Second p → IsPair First Second q
      → pair first second p ++ a ≡ pair first second q ++ b → (p ≡ q) × (a ≡ b)
  pair_unique one two p q a b fp fq e =
      let x = one p.0 q.0 (second p.1 ++ a) (second q.1 ++ b) fp.0 fq.0
      (sym (append_assoc (first p.0) (second p.1) a) ∙ e ∙ append_assoc (first q.0) (second q.1) b) in
      let y = two p.1 q.1 a b fp.1 fq.1 x.1 in
      (λ i. (x.0 i, y.0 i), y.1)

-- ---- numbers, names, dots

pub length-number : (n : ℕ) → length (number n) ≡ 8
unfolding number
length-number n = refl

-- what follows an equal front is equal
pub same_front : (w : ℕ) (x y a b : List ℕ) → length x ≡ w → length y ≡ w → x ++ a ≡ y ++ b → (x ≡ y) × (a ≡ b)
same_front w x y a b p q e = (
  sym (take_at x a w p) ∙ ap (take w) e ∙ take_at y b w q,
  sym (drop_at x a w p) ∙ ap (drop w) e ∙ drop_at y b w q,
)

number_again : (m n : ℕ) → IsNumber m → IsNumber n → number m ≡ number n → m ≡ n
unfolding number
number_again m n p q e = sym (from_be_bytes-to_be_bytes_8 m p) ∙ ap (from_be_bytes w64) e ∙ from_be_bytes-to_be_bytes_8 n q

pub number_unique : IsUnique number IsNumber
number_unique m n a b p q e =
    let both = same_front 8 (number m) (number n) a b (length-number m) (length-number n) e in
    (number_again m n p q both.0, both.1)

pub number_starts : (n : ℕ) → IsNumber n → 0 < length (number n)
number_starts n p = omega (arith, length-number n)

pub name_unique : IsUnique number IsName
name_unique m n a b p q e = number_unique m n a b p.1 q.1 e

pub name_starts : (n : ℕ) → IsName n → 0 < length (number n)
name_starts n p = number_starts n p.1

pub dot_unique : IsUnique dot_bytes IsDot
dot_unique d e a b p q h =
    let both = pair_unique number IsName number IsName name_unique name_unique (d.name, d.number) (e.name, e.number) a b p q h in
    let made : ℕ × ℕ → DotValue = λ x. record { name = x.0; number = x.1 } in
    (ap made both.0, both.1)

pub dot_starts : (d : DotValue) → IsDot d → 0 < length (dot_bytes d)
dot_starts d p = pair_starts number IsName number IsName name_starts (d.name, d.number) p

-- ---- texts

pub length_again : (m n : ℕ) → m ≤ MAX_LENGTH → n ≤ MAX_LENGTH → to_be_bytes w16 m ≡ to_be_bytes w16 n → m ≡ n
length_again m n p q e = sym (from_be_bytes-to_be_bytes_2 m (omega arith)) ∙ ap (from_be_bytes w16) e ∙ from_be_bytes-to_be_bytes_2 n (omega arith)

pub text_unique : IsUnique text IsText
unfolding text
text_unique v w a b p q e =
    let long = same_front 2 (to_be_bytes w16 (length v)) (to_be_bytes w16 (length w)) (v ++ a) (w ++ b) refl refl
    (sym (append_assoc (to_be_bytes w16 (length v)) v a) ∙ e ∙ append_assoc (to_be_bytes w16 (length w)) w b) in
    same_front (length v) v w a b refl (sym (length_again (length v) (length w) p q long.0)) long.1

pub text_starts : (v : List ℕ) → IsText v → 0 < length (text v)
unfolding text
text_starts v p = omega (arith, length-append (to_be_bytes w16 (length v)) v)

-- ---- counted items

module _ {X : Type 0} (item : X → List ℕ) (Item : X → Type 0) where
  module _ (one : IsUnique item Item) where
    each_unique : (xs ys : List X) (a b : List ℕ) → AllByRecursion Item xs → AllByRecursion Item ys → length xs ≡ length ys
        → flat_map item xs ++ a ≡ flat_map item ys ++ b → (xs ≡ ys) × (a ≡ b)
    each_unique [] [] a b p q l e = (refl, e)
    each_unique [] (y ∷ ys) a b p q l e = absurd (omega arith)
    each_unique (x ∷ xs) [] a b p q l e = absurd (omega arith)
    each_unique (x ∷ xs) (y ∷ ys) a b p q l e =
        let first = one x y (flat_map item xs ++ a) (flat_map item ys ++ b) p.0 q.0
        (sym (append_assoc (item x) (flat_map item xs) a) ∙ e ∙ append_assoc (item y) (flat_map item ys) b) in
        let others = each_unique xs ys a b p.1 q.1 (omega arith) first.1 in
        (λ i. first.0 i ∷ others.0 i, others.1)

    pub counted_unique : IsUnique (counted item) (AreCounted Item)
    counted_unique xs ys a b p q e =
        let count = number_unique (length xs) (length ys) (flat_map item xs ++ a) (flat_map item ys ++ b) p.0 q.0
        (sym (append_assoc (number (length xs)) (flat_map item xs) a) ∙ e ∙ append_assoc (number (length ys)) (flat_map item ys) b) in
        each_unique xs ys a b p.1 q.1 count.0 count.1

  pub counted_starts : (xs : List X) → AreCounted Item xs → 0 < length (counted item xs)
  counted_starts xs p = omega (arith, number_starts (length xs) p.0, length-append (number (length xs)) (flat_map item xs))

-- ---- the values of a field, and the fields of a key

pub values_unique : IsUnique values_bytes AreValues
values_unique vs ws a b p q e =
    counted_unique (pair dot_bytes text) (IsPair IsDot IsText) (pair_unique dot_bytes IsDot text IsText dot_unique text_unique) vs ws a b p.each q.each e

pub values_starts : HasBytes values_bytes AreValues
values_starts vs p = counted_starts (pair dot_bytes text) (IsPair IsDot IsText) vs p.each

pub fields_unique : IsUnique fields_bytes AreFields
fields_unique fs gs a b p q e =
    counted_unique (pair text values_bytes) (IsPair IsText AreValues)
    (pair_unique text IsText values_bytes AreValues text_unique values_unique) fs gs a b p.each q.each e

pub fields_starts : HasBytes fields_bytes AreFields
fields_starts fs p = counted_starts (pair text values_bytes) (IsPair IsText AreValues) fs p.each

-- ---- the empty field alone

no_bytes : (xs : List ℕ) → eqb (length xs) 0 ≡ true → xs ≡ []
no_bytes [] t = refl
no_bytes (x ∷ xs) t = absurd (omega (arith, eqb-true (length (x ∷ xs)) 0 t))

pub sole_is : (fs : FieldsValue) → is_sole fs ≡ true → fs ≡ alone (first_values fs)
sole_is [] t = absurd (cc t)
sole_is (f ∷ []) t = let made : List ℕ → FieldsValue = λ k. (k, f.1) ∷ [] in ap made (no_bytes f.0 t)
sole_is (f ∷ g ∷ fs) t = absurd (cc t)

pub first_lawful : (fs : FieldsValue) → AreSole fs → AreValues (first_values fs)
first_lawful [] p = absurd (cc p.form)
first_lawful (f ∷ fs) p = p.lawful.each.1.0.1

pub sole_unique : IsUnique sole AreSole
sole_unique fs gs a b p q e =
    let both = values_unique (first_values fs) (first_values gs) a b (first_lawful fs p) (first_lawful gs q) e in
    (sole_is fs p.form ∙ ap alone both.0 ∙ sym (sole_is gs q.form), both.1)

pub sole_starts : HasBytes sole AreSole
sole_starts fs p = values_starts (first_values fs) (first_lawful fs p)

-- Stores at the front of bytes, in either form.
use Rattle.std.proofs.Common.{◌≡◌, ℕ, Bool, ◌&&◌, true, false, List, [], ◌∷◌, sym, ap, subst, refl, ◌∙◌}
use Rattle.std.specs.List.{AllByRecursion}
use Rattle.std.specs.List.Sorted.{IsStrictlySortedBy}
use Rattle.std.specs.Map.{keys_of}
use Rattle.dots.specs.Bytes.{bytes_cmp}
use Rattle.dot_store.specs.Stores.{NoKeyIsEmpty}
use Rattle.causal_join.specs.OrMap.{OrMapStoreValue, fields_at}
use Rattle.wire_form.specs.Spelling.{pair, IsPair, counted, AreCounted, Begins, HasNoSpelling}
use Rattle.wire_form.specs.Parts.{text, IsText, fields_bytes, AreFields}
use Rattle.wire_form.specs.Store.{is_sole, is_plain_form, sole, AreSole, store, IsStoreOf}
use Rattle.wire_form.specs.Unique.{IsUnique, pair_unique, text_unique, counted_unique, fields_unique, sole_unique}
use Rattle.wire_form.proofs.Plains.{both_true}
use Rattle.wire_form.proofs.Reading.{none_lawful}

-- ---- keys with the empty field alone

-- each key of such a list has the empty field alone
pub sole_each : (s : OrMapStoreValue) → AllByRecursion (IsPair IsText AreSole) s → AllByRecursion (IsPair IsText AreFields) s × (is_plain_form s ≡ true)
sole_each [] p = (tt, refl)
sole_each (e ∷ es) p = let others = sole_each es p.1 in (((p.0.0, p.0.1.lawful), others.0), ap (λ (b : Bool). b && is_plain_form es) p.0.1.form ∙ others.1)

pub each_sole : (s : OrMapStoreValue) → AllByRecursion (IsPair IsText AreFields) s → is_plain_form s ≡ true → AllByRecursion (IsPair IsText AreSole) s
each_sole [] p t = tt
each_sole (e ∷ es) p t =
    let both = both_true (is_sole e.1) (is_plain_form es) t in
    ((p.0.0, record { lawful = p.0.1; form = both.0 }), each_sole es p.1 both.1)

plain_items : (s : OrMapStoreValue) → IsStoreOf true s → AreCounted (IsPair IsText AreSole) s
plain_items s p = (p.lawful.each.0, each_sole s p.lawful.each.1 p.form)

-- ---- stores

plain_unique : IsUnique (counted (pair text sole)) (AreCounted (IsPair IsText AreSole))
plain_unique = counted_unique (pair text sole) (IsPair IsText AreSole) (pair_unique text IsText sole AreSole text_unique sole_unique)

full_unique : IsUnique (counted (pair text fields_bytes)) (AreCounted (IsPair IsText AreFields))
full_unique = counted_unique (pair text fields_bytes) (IsPair IsText AreFields) (pair_unique text IsText fields_bytes AreFields text_unique fields_unique)

pub store_unique : (plain : Bool) → IsUnique (store plain) (IsStoreOf plain)
store_unique true v w a b p q e = plain_unique v w a b (plain_items v p) (plain_items w q) e
store_unique false v w a b p q e = full_unique v w a b p.lawful.each q.lawful.each e

pub plain_store_begins : (bytes : List ℕ) (s made : OrMapStoreValue) (rest : List ℕ)
    → Begins (counted (pair text sole)) (AreCounted (IsPair IsText AreSole)) bytes s rest
    → IsStrictlySortedBy bytes_cmp (keys_of s) → NoKeyIsEmpty fields_at s → made ≡ s → Begins (store true) (IsStoreOf true) bytes made rest
plain_store_begins bytes s made rest read ascend filled is =
    let each = sole_each s read.fits.1 in
    subst (λ (m : OrMapStoreValue). Begins (store true) (IsStoreOf true) bytes m rest) (sym is)
    (record { fits = record { lawful = record { each = (read.fits.0, each.0); ascend = ascend; filled = filled }; form = each.1 }; parts = read.parts })

pub no_plain_items : (bytes : List ℕ) → HasNoSpelling (counted (pair text sole)) (AreCounted (IsPair IsText AreSole)) bytes
    → HasNoSpelling (store true) (IsStoreOf true) bytes
no_plain_items bytes none s rest h = none s rest (record { fits = plain_items s h.fits; parts = h.parts })

pub no_plain_store : (bytes : List ℕ) (s : OrMapStoreValue) (rest : List ℕ)
    → Begins (counted (pair text sole)) (AreCounted (IsPair IsText AreSole)) bytes s rest
    → (IsStrictlySortedBy bytes_cmp (keys_of s) × NoKeyIsEmpty fields_at s → false ≡ true) → HasNoSpelling (store true) (IsStoreOf true) bytes
no_plain_store bytes s rest read bad =
    none_lawful (counted (pair text sole)) (AreCounted (IsPair IsText AreSole)) (IsStoreOf true) plain_unique plain_items bytes s rest read
    (λ h. absurd (cc (bad (h.lawful.ascend, h.lawful.filled))))

pub full_store_begins : (bytes : List ℕ) (s made : OrMapStoreValue) (rest : List ℕ)
    → Begins (counted (pair text fields_bytes)) (AreCounted (IsPair IsText AreFields)) bytes s rest
    → IsStrictlySortedBy bytes_cmp (keys_of s) → NoKeyIsEmpty fields_at s → made ≡ s → is_plain_form made ≡ false
    → Begins (store false) (IsStoreOf false) bytes made rest
full_store_begins bytes s made rest read ascend filled is form =
    subst (λ (m : OrMapStoreValue). Begins (store false) (IsStoreOf false) bytes m rest) (sym is)
    (record {
      fits = record { lawful = record { each = read.fits; ascend = ascend; filled = filled }; form = ap is_plain_form (sym is) ∙ form };
      parts = read.parts;
    })

pub no_full_items : (bytes : List ℕ) → HasNoSpelling (counted (pair text fields_bytes)) (AreCounted (IsPair IsText AreFields)) bytes
    → HasNoSpelling (store false) (IsStoreOf false) bytes
no_full_items bytes none s rest h = none s rest (record { fits = h.fits.lawful.each; parts = h.parts })

pub no_full_store : (bytes : List ℕ) (s : OrMapStoreValue) (rest : List ℕ)
    → Begins (counted (pair text fields_bytes)) (AreCounted (IsPair IsText AreFields)) bytes s rest
    → (IsStrictlySortedBy bytes_cmp (keys_of s) × NoKeyIsEmpty fields_at s → false ≡ true) → HasNoSpelling (store false) (IsStoreOf false) bytes
no_full_store bytes s rest read bad =
    none_lawful (counted (pair text fields_bytes)) (AreCounted (IsPair IsText AreFields)) (IsStoreOf false) full_unique (λ v h. h.lawful.each) bytes s rest read
    (λ h. absurd (cc (bad (h.lawful.ascend, h.lawful.filled))))

-- a plain store is not spelled by its fields
pub no_fields_of_plain : (bytes : List ℕ) (s made : OrMapStoreValue) (rest : List ℕ)
    → Begins (counted (pair text fields_bytes)) (AreCounted (IsPair IsText AreFields)) bytes s rest
    → made ≡ s → is_plain_form made ≡ true → HasNoSpelling (store false) (IsStoreOf false) bytes
no_fields_of_plain bytes s made rest read is plain =
    none_lawful (counted (pair text fields_bytes)) (AreCounted (IsPair IsText AreFields)) (IsStoreOf false) full_unique (λ v h. h.lawful.each) bytes s rest read
    (λ h. let form : is_plain_form s ≡ true = ap is_plain_form (sym is) ∙ plain in let other = h.form in absurd (cc (form, other)))

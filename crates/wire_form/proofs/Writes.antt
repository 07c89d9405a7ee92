-- What writers leave, from what other writers left.
use Rattle.std.proofs.Common.{◌≡◌, ℕ, ◌≤◌, true, false, List, ◌++◌, length, sym, ap, subst, ◌∙◌, append_assoc, arith}
use Rattle.std.specs.List.{flat_map, AllByRecursion}
use Rattle.std.specs.Int.{w16, to_be_bytes}
use Rattle.dots.specs.Bytes.{MAX_LENGTH, bytes_cmp}
use Rattle.wire_form.specs.Spelling.{number, IsNumber, pair, IsPair, counted, AreCounted}
use Rattle.std.specs.List.Sorted.{IsStrictlySortedBy}
use Rattle.std.specs.Map.{keys_of}
use Rattle.causal_context.specs.Context.{ContextValue}
use Rattle.causal_context.specs.Canonical.{IsCanonical}
use Rattle.causal_context.specs.Dots.{dot_cmp}
use Rattle.dot_store.specs.Stores.{at_values, NoKeyIsEmpty}
use Rattle.causal_join.specs.OrMap.{ValuesValue, FieldsValue, OrMapStoreValue, fields_at}
use Rattle.wire_form.specs.Parts.{text, IsText, dot_bytes, IsDot, entry, IsEntry, values_bytes, AreValues, fields_bytes, AreFields, context, IsContext}
use Rattle.wire_form.specs.Store.{is_sole, alone, first_values, sole, AreSole, store, IsStore}
use Rattle.wire_form.specs.Unique.{sole_is}
use Rattle.wire_form.specs.Writing.{Appends}
use Rattle.wire_form.proofs.Stores.{sole_each}

pub pair_appends : {X Y : Type 0} (first : X → List ℕ) (First : X → Type 0) (second : Y → List ℕ) (Second : Y → Type 0) (old mid new : List ℕ) (x : X) (y : Y)
    → Appends first First old mid x → Appends second Second mid new y → Appends (pair first second) (IsPair First Second) old new (x, y)
pair_appends first First second Second old mid new x y p q = record {
  fits = (p.fits, q.fits);
  parts = q.parts ∙ ap (λ (t : List ℕ). t ++ second y) p.parts ∙ append_assoc old (first x) (second y);
}

-- a count, and then the items
pub counted_appends : {X : Type 0} (item : X → List ℕ) (Item : X → Type 0) (old mid new : List ℕ) (xs : List X) → Appends number IsNumber old mid (length xs)
    → Appends (flat_map item) (AllByRecursion Item) mid new xs → Appends (counted item) (AreCounted Item) old new xs
counted_appends item Item old mid new xs p q = record {
  fits = (p.fits, q.fits);
  parts = q.parts ∙ ap (λ (t : List ℕ). t ++ flat_map item xs) p.parts ∙ append_assoc old (number (length xs)) (flat_map item xs);
}

pub text_appends : (old mid new bytes : List ℕ) → length bytes ≤ MAX_LENGTH → mid ≡ old ++ to_be_bytes w16 (length bytes) → new ≡ mid ++ bytes
    → Appends text IsText old new bytes
unfolding text
text_appends old mid new bytes fits first second = record {
  fits = fits;
  parts = second ∙ ap (λ (t : List ℕ). t ++ bytes) first ∙ append_assoc old (to_be_bytes w16 (length bytes)) bytes;
}

-- ---- values, fields, stores and contexts

pub values_appended : (old now : List ℕ) (vs made : ValuesValue) → Appends (counted (pair dot_bytes text)) (AreCounted (IsPair IsDot IsText)) old now made
    → made ≡ vs
    → IsStrictlySortedBy dot_cmp (keys_of made) → Appends values_bytes AreValues old now vs
values_appended old now vs made p e s = subst (λ (m : ValuesValue). Appends values_bytes AreValues old now m) e
    (record { fits = record { each = p.fits; ascend = s }; parts = p.parts })

pub fields_appended : (old now : List ℕ) (fs made : FieldsValue) → Appends (counted (pair text values_bytes)) (AreCounted (IsPair IsText AreValues))
    old now made → made ≡ fs
    → IsStrictlySortedBy bytes_cmp (keys_of made) → NoKeyIsEmpty at_values made → Appends fields_bytes AreFields old now fs
fields_appended old now fs made p e ascend filled =
    subst (λ (m : FieldsValue). Appends fields_bytes AreFields old now m) e
    (record { fits = record { each = p.fits; ascend = ascend; filled = filled }; parts = p.parts })

-- the values of the empty field, where it is alone
sole_lawful : (fs : FieldsValue) → fs ≡ alone (first_values fs) → AreValues (first_values fs) → IsStrictlySortedBy bytes_cmp (keys_of fs)
    → NoKeyIsEmpty at_values fs → AreFields fs
sole_lawful fs is lawful ascend filled =
    let each = subst (AreCounted (IsPair IsText AreValues)) (sym is) (omega arith, ((omega arith, lawful), tt)) in
    record { each = each; ascend = ascend; filled = filled }

pub sole_appended : (old now : List ℕ) (fs : FieldsValue) (vs : ValuesValue) → is_sole fs ≡ true → IsStrictlySortedBy bytes_cmp (keys_of fs)
    → NoKeyIsEmpty at_values fs → vs ≡ first_values fs
    → Appends values_bytes AreValues old now vs → Appends sole AreSole old now fs
sole_appended old now fs vs t ascend filled is p =
    let written = subst (λ (ws : ValuesValue). Appends values_bytes AreValues old now ws) is p in
    record { fits = record { lawful = sole_lawful fs (sole_is fs t) written.fits ascend filled; form = t }; parts = written.parts }

pub full_store_appended : (old now : List ℕ) (s made : OrMapStoreValue)
    → Appends (counted (pair text fields_bytes)) (AreCounted (IsPair IsText AreFields)) old now made → made ≡ s
    → IsStrictlySortedBy bytes_cmp (keys_of made) → NoKeyIsEmpty fields_at made → Appends (store false) IsStore old now s
full_store_appended old now s made p e ascend filled =
    subst (λ (m : OrMapStoreValue). Appends (store false) IsStore old now m) e
    (record { fits = record { each = p.fits; ascend = ascend; filled = filled }; parts = p.parts })

pub plain_store_appended : (old now : List ℕ) (s made : OrMapStoreValue)
    → Appends (counted (pair text sole)) (AreCounted (IsPair IsText AreSole)) old now made → made ≡ s
    → IsStrictlySortedBy bytes_cmp (keys_of made) → NoKeyIsEmpty fields_at made → Appends (store true) IsStore old now s
plain_store_appended old now s made p e ascend filled =
    let each : AreCounted (IsPair IsText AreFields) made = (p.fits.0, (sole_each made p.fits.1).0) in
    subst (λ (m : OrMapStoreValue). Appends (store true) IsStore old now m) e
    (record { fits = record { each = each; ascend = ascend; filled = filled }; parts = p.parts })

pub context_appended : (old mid new : List ℕ) (c : ContextValue) → Appends (counted entry) (AreCounted IsEntry) old mid c.vector → IsCanonical c
    → Appends (counted dot_bytes) (AreCounted IsDot) mid new c.cloud → Appends context IsContext old new c
context_appended old mid new c p canonical q =
    let both = pair_appends (counted entry) (AreCounted IsEntry) (counted dot_bytes) (AreCounted IsDot) old mid new c.vector c.cloud p q in
    record { fits = record { entries = p.fits; dots = q.fits; canonical = canonical }; parts = both.parts }

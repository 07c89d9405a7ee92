-- Values, fields and contexts at the front of bytes: counted lists that are in order.
use Rattle.std.proofs.Common.{◌≡◌, ℕ, List, true, false, refl, arith, sym, ap, subst, ◌∙◌}
use Rattle.std.specs.List.Sorted.{IsStrictlySortedBy}
use Rattle.std.specs.Map.{keys_of}
use Rattle.dots.specs.Bytes.{bytes_cmp}
use Rattle.dots.specs.Dot.{DotValue}
use Rattle.causal_context.specs.Context.{ContextValue}
use Rattle.causal_context.specs.Canonical.{IsCanonical}
use Rattle.causal_context.specs.Dots.{dot_cmp}
use Rattle.dot_store.specs.Stores.{at_values, NoKeyIsEmpty}
use Rattle.causal_join.specs.OrMap.{ValuesValue, FieldsValue}
use Rattle.wire_form.specs.Spelling.{number, IsNumber, pair, IsPair, counted, AreCounted, Begins, HasNoSpelling}
use Rattle.wire_form.specs.Parts.{IsText, text, IsDot, dot_bytes, IsEntry, entry, values_bytes, AreValues, fields_bytes, AreFields, context, IsContext, IsName}
use Rattle.wire_form.specs.Store.{alone, first_values, sole, AreSole}
use Rattle.wire_form.specs.Unique.{IsUnique, pair_unique, dot_unique, text_unique, counted_unique, number_unique, name_unique, values_unique, sole_is}
use Rattle.wire_form.specs.Unique.{first_lawful}
use Rattle.wire_form.proofs.Reading.{none_lawful}
use Rattle.wire_form.proofs.Pairs.{pair_begins, none_first, none_second}

-- ---- values

pub values_begin : (bytes : List ℕ) (vs made : ValuesValue) (rest : List ℕ)
    → Begins (counted (pair dot_bytes text)) (AreCounted (IsPair IsDot IsText)) bytes vs rest
    → IsStrictlySortedBy dot_cmp (keys_of vs) → made ≡ vs → Begins values_bytes AreValues bytes made rest
values_begin bytes vs made rest read ascend is =
    subst (λ (m : ValuesValue). Begins values_bytes AreValues bytes m rest) (sym is)
    (record { fits = record { each = read.fits; ascend = ascend }; parts = read.parts })

pub no_values : (bytes : List ℕ) (vs : ValuesValue) (rest : List ℕ) → Begins (counted (pair dot_bytes text)) (AreCounted (IsPair IsDot IsText)) bytes vs rest
    → (IsStrictlySortedBy dot_cmp (keys_of vs) → false ≡ true) → HasNoSpelling values_bytes AreValues bytes
no_values bytes vs rest read bad =
    none_lawful (counted (pair dot_bytes text)) (AreCounted (IsPair IsDot IsText)) AreValues
    (counted_unique (pair dot_bytes text) (IsPair IsDot IsText) (pair_unique dot_bytes IsDot text IsText dot_unique text_unique)) (λ v h. h.each)
    bytes vs rest read
    (λ h. absurd (cc (bad h.ascend)))

-- ---- fields

pub fields_begin : (bytes : List ℕ) (fs made : FieldsValue) (rest : List ℕ)
    → Begins (counted (pair text values_bytes)) (AreCounted (IsPair IsText AreValues)) bytes fs rest
    → IsStrictlySortedBy bytes_cmp (keys_of fs) → NoKeyIsEmpty at_values fs → made ≡ fs → Begins fields_bytes AreFields bytes made rest
fields_begin bytes fs made rest read ascend filled is =
    subst (λ (m : FieldsValue). Begins fields_bytes AreFields bytes m rest) (sym is)
    (record { fits = record { each = read.fits; ascend = ascend; filled = filled }; parts = read.parts })

pub no_fields : (bytes : List ℕ) (fs : FieldsValue) (rest : List ℕ)
    → Begins (counted (pair text values_bytes)) (AreCounted (IsPair IsText AreValues)) bytes fs rest
    → (IsStrictlySortedBy bytes_cmp (keys_of fs) × NoKeyIsEmpty at_values fs → false ≡ true) → HasNoSpelling fields_bytes AreFields bytes
no_fields bytes fs rest read bad =
    none_lawful (counted (pair text values_bytes)) (AreCounted (IsPair IsText AreValues)) AreFields
    (counted_unique (pair text values_bytes) (IsPair IsText AreValues) (pair_unique text IsText values_bytes AreValues text_unique values_unique))
    (λ v h. h.each) bytes fs rest read
    (λ h. absurd (cc (bad (h.ascend, h.filled))))

-- ---- the empty field alone

pub sole_begins : (bytes : List ℕ) (vs : ValuesValue) (made : FieldsValue) (rest : List ℕ) → Begins values_bytes AreValues bytes vs rest
    → IsStrictlySortedBy bytes_cmp (keys_of (alone vs)) → NoKeyIsEmpty at_values (alone vs) → made ≡ alone vs → Begins sole AreSole bytes made rest
sole_begins bytes vs made rest read ascend filled is =
    subst (λ (m : FieldsValue). Begins sole AreSole bytes m rest) (sym is)
    (record {
      fits = record { lawful = record { each = (omega arith, ((omega arith, read.fits), tt)); ascend = ascend; filled = filled }; form = refl };
      parts = read.parts;
    })

pub no_values_alone : (bytes : List ℕ) → HasNoSpelling values_bytes AreValues bytes → HasNoSpelling sole AreSole bytes
no_values_alone bytes none fs end h = none (first_values fs) end (record { fits = first_lawful fs h.fits; parts = h.parts })

pub no_sole : (bytes : List ℕ) (vs : ValuesValue) (rest : List ℕ) → Begins values_bytes AreValues bytes vs rest
    → (IsStrictlySortedBy bytes_cmp (keys_of (alone vs)) × NoKeyIsEmpty at_values (alone vs) → false ≡ true) → HasNoSpelling sole AreSole bytes
no_sole bytes vs rest read bad fs end h =
    let same = values_unique vs (first_values fs) rest end read.fits (first_lawful fs h.fits) (sym read.parts ∙ h.parts) in
    let is : fs ≡ alone vs = sole_is fs h.fits.form ∙ ap alone (sym same.0) in
    absurd (cc (bad (
      subst (λ (gs : FieldsValue). IsStrictlySortedBy bytes_cmp (keys_of gs)) is h.fits.lawful.ascend,
      subst (λ (gs : FieldsValue). NoKeyIsEmpty at_values gs) is h.fits.lawful.filled,
    )))

-- ---- contexts

entry_unique : IsUnique entry IsEntry
entry_unique = pair_unique number IsName number IsNumber name_unique number_unique

pub vector_unique : IsUnique (counted entry) (AreCounted IsEntry)
vector_unique = counted_unique entry IsEntry entry_unique

pub cloud_unique : IsUnique (counted dot_bytes) (AreCounted IsDot)
cloud_unique = counted_unique dot_bytes IsDot dot_unique

no_parts : (bytes : List ℕ) → HasNoSpelling (pair (counted entry) (counted dot_bytes)) (IsPair (AreCounted IsEntry) (AreCounted IsDot)) bytes
    → HasNoSpelling context IsContext bytes
no_parts bytes none c rest h = none (c.vector, c.cloud) rest (record { fits = (h.fits.entries, h.fits.dots); parts = h.parts })

pub no_vector : (bytes : List ℕ) → HasNoSpelling (counted entry) (AreCounted IsEntry) bytes → HasNoSpelling context IsContext bytes
no_vector bytes none = no_parts bytes (none_first (counted entry) (AreCounted IsEntry) (counted dot_bytes) (AreCounted IsDot) bytes none)

pub no_cloud : (bytes : List ℕ) (vector : List (ℕ × ℕ)) (rest : List ℕ) → Begins (counted entry) (AreCounted IsEntry) bytes vector rest
    → HasNoSpelling (counted dot_bytes) (AreCounted IsDot) rest
    → HasNoSpelling context IsContext bytes
no_cloud bytes vector rest read none =
    no_parts bytes (none_second (counted entry) (AreCounted IsEntry) (counted dot_bytes) (AreCounted IsDot) vector_unique bytes vector rest read none)

pub context_begins : (bytes : List ℕ) (vector : List (ℕ × ℕ)) (rest : List ℕ) (cloud : List DotValue) (end : List ℕ) (made : ContextValue)
    → Begins (counted entry) (AreCounted IsEntry) bytes vector rest
    → Begins (counted dot_bytes) (AreCounted IsDot) rest cloud end → IsCanonical (record { vector = vector; cloud = cloud })
    → made ≡ record { vector = vector; cloud = cloud } → Begins context IsContext bytes made end
context_begins bytes vector rest cloud end made first second canonical is =
    let both = pair_begins (counted entry) (AreCounted IsEntry) (counted dot_bytes) (AreCounted IsDot) bytes vector rest cloud end first second in
    subst (λ (m : ContextValue). Begins context IsContext bytes m end) (sym is)
    (record { fits = record { entries = both.fits.0; dots = both.fits.1; canonical = canonical }; parts = both.parts })

pub no_context : (bytes : List ℕ) (vector : List (ℕ × ℕ)) (rest : List ℕ) (cloud : List DotValue) (end : List ℕ)
    → Begins (counted entry) (AreCounted IsEntry) bytes vector rest
    → Begins (counted dot_bytes) (AreCounted IsDot) rest cloud end → (IsCanonical (record { vector = vector; cloud = cloud }) → false ≡ true)
    → HasNoSpelling context IsContext bytes
no_context bytes vector rest cloud end first second bad c after h =
    let both = pair_begins (counted entry) (AreCounted IsEntry) (counted dot_bytes) (AreCounted IsDot) bytes vector rest cloud end first second in
    let same = pair_unique (counted entry) (AreCounted IsEntry) (counted dot_bytes) (AreCounted IsDot) vector_unique cloud_unique (vector, cloud)
    (c.vector, c.cloud) end after both.fits (h.fits.entries, h.fits.dots) (sym both.parts ∙ h.parts) in
    let made : List (ℕ × ℕ) × List DotValue → ContextValue = λ p. record { vector = p.0; cloud = p.1 } in
    absurd (cc (bad (subst (λ (p : List (ℕ × ℕ) × List DotValue). IsCanonical (made p)) (sym same.0) h.fits.canonical)))

pub context_unique : IsUnique context IsContext
context_unique c d a b p q e =
    let same = pair_unique (counted entry) (AreCounted IsEntry) (counted dot_bytes) (AreCounted IsDot) vector_unique cloud_unique (c.vector, c.cloud)
    (d.vector, d.cloud) a b (p.entries, p.dots) (q.entries, q.dots) e in
    let made : List (ℕ × ℕ) × List DotValue → ContextValue = λ p. record { vector = p.0; cloud = p.1 } in
    (ap made same.0, same.1)

-- Digests, names and whole pages at the front of bytes.
use Rattle.std.proofs.Common.{◌≡◌, ℕ, ◌<◌, ◌+◌, true, false, List, [], ◌∷◌, ◌++◌, length, take, drop, refl, sym, ap, subst, ◌∙◌, arith, eqb}
use Rattle.std.specs.List.{flat_map, AllByRecursion}
use Rattle.std.specs.List.Sorted.{IsStrictlySortedBy}
use Rattle.std.specs.Map.{keys_of}
use Rattle.std.proofs.lemmas.List.{append-nil, take-append-drop, length-take}
use Rattle.dots.specs.Bytes.{bytes_cmp}
use Rattle.causal_context.specs.Dots.{dot_cmp}
use Rattle.wire_form.specs.Spelling.{pair, IsPair, counted, AreCounted, IsWhole, Begins, HasNoSpelling}
use Rattle.wire_form.specs.Parts.{text, IsText, dot_bytes, IsDot}
use Rattle.wire_form.specs.Page.{NamesValue, NamedValue, EntryValue, PageValue, OneKey, Keys, Branch, digest, IsDigest, names, AreNames, named, AreNamed, entry}
use Rattle.wire_form.specs.Page.{IsEntry, child, IsChild, spelled, ArePartsOf}
use Rattle.wire_form.specs.Unique.{IsUnique, pair_unique, dot_unique, text_unique, counted_unique}
use Rattle.wire_form.specs.UniquePages.{digest_unique, names_unique}
use Rattle.wire_form.proofs.Reading.{none_lawful}
use Rattle.wire_form.proofs.Wholes.{whole_spelled, none_whole, none_whole_end}
use Rattle.wire_form.proofs.Said.{entry_unique}

-- ---- digests

pub digest_begins : (bytes front rest : List ℕ) → front ≡ take 32 bytes → rest ≡ drop 32 bytes → length rest + 32 ≡ length bytes
    → Begins digest IsDigest bytes front rest
digest_begins bytes front rest f r long = record {
  fits = ap length f ∙ omega (arith, length-take 32 bytes);
  parts = sym (take-append-drop 32 bytes) ∙ ap (λ (x : List ℕ). x ++ drop 32 bytes) (sym f) ∙ ap (λ (x : List ℕ). front ++ x) (sym r);
}

no_bytes : (xs : List ℕ) → length xs < 1 → xs ≡ []
no_bytes [] h = refl
no_bytes (x ∷ xs) h = absurd (omega arith)

pub digest_whole : (bytes front rest : List ℕ) → front ≡ take 32 bytes → rest ≡ drop 32 bytes → length rest + 32 ≡ length bytes → length rest < 1
    → IsWhole digest IsDigest bytes front
digest_whole bytes front rest f r long short =
    let read = digest_begins bytes front rest f r long in
    record { fits = read.fits; spelling = read.parts ∙ ap (λ (x : List ℕ). front ++ x) (no_bytes rest short) ∙ append-nil front }

-- ---- names

names_parts_unique : IsUnique (counted (pair dot_bytes digest)) (AreCounted (IsPair IsDot IsDigest))
names_parts_unique = counted_unique (pair dot_bytes digest) (IsPair IsDot IsDigest) (pair_unique dot_bytes IsDot digest IsDigest dot_unique digest_unique)

pub names_begin : (bytes : List ℕ) (ns made : NamesValue) (rest : List ℕ)
    → Begins (counted (pair dot_bytes digest)) (AreCounted (IsPair IsDot IsDigest)) bytes ns rest
    → IsStrictlySortedBy dot_cmp (keys_of ns) → made ≡ ns → Begins names AreNames bytes made rest
names_begin bytes ns made rest read ascend is =
    subst (λ (m : NamesValue). Begins names AreNames bytes m rest) (sym is) (record { fits = record { each = read.fits; ascend = ascend }; parts = read.parts })

pub no_names : (bytes : List ℕ) (ns : NamesValue) (rest : List ℕ) → Begins (counted (pair dot_bytes digest)) (AreCounted (IsPair IsDot IsDigest)) bytes ns rest
    → (IsStrictlySortedBy dot_cmp (keys_of ns) → false ≡ true) → HasNoSpelling names AreNames bytes
no_names bytes ns rest read bad =
    none_lawful (counted (pair dot_bytes digest)) (AreCounted (IsPair IsDot IsDigest)) AreNames names_parts_unique (λ v h. h.each) bytes ns rest read
    (λ h. absurd (cc (bad h.ascend)))

named_parts_unique : IsUnique (counted (pair text names)) (AreCounted (IsPair IsText AreNames))
named_parts_unique = counted_unique (pair text names) (IsPair IsText AreNames) (pair_unique text IsText names AreNames text_unique names_unique)

pub named_begin : (bytes : List ℕ) (fs made : NamedValue) (rest : List ℕ)
    → Begins (counted (pair text names)) (AreCounted (IsPair IsText AreNames)) bytes fs rest
    → IsStrictlySortedBy bytes_cmp (keys_of fs) → made ≡ fs → Begins named AreNamed bytes made rest
named_begin bytes fs made rest read ascend is =
    subst (λ (m : NamedValue). Begins named AreNamed bytes m rest) (sym is) (record { fits = record { each = read.fits; ascend = ascend }; parts = read.parts })

pub no_named : (bytes : List ℕ) (fs : NamedValue) (rest : List ℕ) → Begins (counted (pair text names)) (AreCounted (IsPair IsText AreNames)) bytes fs rest
    → (IsStrictlySortedBy bytes_cmp (keys_of fs) → false ≡ true) → HasNoSpelling named AreNamed bytes
no_named bytes fs rest read bad =
    none_lawful (counted (pair text names)) (AreCounted (IsPair IsText AreNames)) AreNamed named_parts_unique (λ v h. h.each) bytes fs rest read
    (λ h. absurd (cc (bad h.ascend)))

-- ---- whole pages

-- the bytes spell no page
abbrev pub SpellsNoPage : List ℕ → Type 0
SpellsNoPage bytes = (page : PageValue) → IsWhole spelled ArePartsOf bytes page → ⊥

behind_kind : List ℕ → List ℕ
behind_kind [] = []
behind_kind (k ∷ bytes) = bytes

first_in : List ℕ → ℕ
first_in [] = 0
first_in (k ∷ bytes) = k

pub one_key_spelled : (bytes : List ℕ) (e : EntryValue) (rest : List ℕ) → Begins entry IsEntry bytes e rest → true ≡ eqb (length rest) 0
    → IsWhole spelled ArePartsOf (0 ∷ bytes) (OneKey e)
one_key_spelled bytes e rest read nothing =
    let whole = whole_spelled entry IsEntry bytes e rest read nothing in
    record { fits = whole.fits; spelling = ap (λ (t : List ℕ). 0 ∷ t) whole.spelling }

no_entry : (bytes : List ℕ) → ((e : EntryValue) → IsWhole entry IsEntry bytes e → ⊥) → SpellsNoPage (0 ∷ bytes)
unfolding behind_kind
no_entry bytes none (OneKey e) h = none e (record { fits = h.fits; spelling = ap behind_kind h.spelling })
no_entry bytes none (Keys es) h = let differ = h.spelling in absurd (cc differ)
no_entry bytes none (Branch cs) h = let differ = h.spelling in absurd (cc differ)

pub no_one_key : (bytes : List ℕ) → HasNoSpelling entry IsEntry bytes → SpellsNoPage (0 ∷ bytes)
no_one_key bytes none = no_entry bytes (none_whole entry IsEntry bytes none)

pub no_one_key_end : (bytes : List ℕ) (e : EntryValue) (rest : List ℕ) → Begins entry IsEntry bytes e rest → false ≡ eqb (length rest) 0
    → SpellsNoPage (0 ∷ bytes)
no_one_key_end bytes e rest read more = no_entry bytes (none_whole_end entry IsEntry entry_unique bytes e rest read more)

pub keys_spelled : (bytes : List ℕ) (es : List EntryValue) → IsWhole (flat_map entry) (AllByRecursion IsEntry) bytes es
    → IsWhole spelled ArePartsOf (1 ∷ bytes) (Keys es)
keys_spelled bytes es h = record { fits = h.fits; spelling = ap (λ (t : List ℕ). 1 ∷ t) h.spelling }

pub no_keys : (bytes : List ℕ) → ((es : List EntryValue) → IsWhole (flat_map entry) (AllByRecursion IsEntry) bytes es → ⊥) → SpellsNoPage (1 ∷ bytes)
unfolding behind_kind
no_keys bytes none (Keys es) h = none es (record { fits = h.fits; spelling = ap behind_kind h.spelling })
no_keys bytes none (OneKey e) h = let differ = h.spelling in absurd (cc differ)
no_keys bytes none (Branch cs) h = let differ = h.spelling in absurd (cc differ)

pub branch_spelled : (bytes : List ℕ) (cs : List (ℕ × List ℕ)) → IsWhole (flat_map child) (AllByRecursion IsChild) bytes cs
    → IsWhole spelled ArePartsOf (2 ∷ bytes) (Branch cs)
branch_spelled bytes cs h = record { fits = h.fits; spelling = ap (λ (t : List ℕ). 2 ∷ t) h.spelling }

pub no_branch : (bytes : List ℕ) → ((cs : List (ℕ × List ℕ)) → IsWhole (flat_map child) (AllByRecursion IsChild) bytes cs → ⊥) → SpellsNoPage (2 ∷ bytes)
unfolding behind_kind
no_branch bytes none (Branch cs) h = none cs (record { fits = h.fits; spelling = ap behind_kind h.spelling })
no_branch bytes none (OneKey e) h = let differ = h.spelling in absurd (cc differ)
no_branch bytes none (Keys es) h = let differ = h.spelling in absurd (cc differ)

pub no_page_head : (bytes : List ℕ) → ((rest : List ℕ) → bytes ≡ 0 ∷ rest → ⊥) → ((rest : List ℕ) → bytes ≡ 1 ∷ rest → ⊥)
    → ((rest : List ℕ) → bytes ≡ 2 ∷ rest → ⊥) → SpellsNoPage bytes
no_page_head bytes a b c (OneKey e) h = a (entry e) h.spelling
no_page_head bytes a b c (Keys es) h = b (flat_map entry es) h.spelling
no_page_head bytes a b c (Branch cs) h = c (flat_map child cs) h.spelling

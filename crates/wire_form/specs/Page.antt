-- Pages and their bytes. Of this project. Numbers are big-endian.
--
-- A page tells what a map holds at a prefix of hash paths. Its first byte is its kind: 00 for one key, 01 for several
-- keys of one hash, and 02 for a branch, that is one digest for each index that goes on. A key is told as a text, with
-- the count of its fields and each of them as a text, with the count of its dots and each of them with the SHA-256 of
-- its value. So a page holds no value, and is as long for long values as for short ones.
--
-- Example: the page of the key a alone, with x under the dot 1:1 at the empty field, has 70 bytes: 00, the text a, the
-- count 1, the text of no bytes, the count 1, the dot 1:1, and the SHA-256 of x.
use Rattle.std.specs.Prelude.{◌≡◌, ℕ, List, ◌∷◌, length}
use Rattle.std.specs.List.{flat_map, AllByRecursion}
use Rattle.std.specs.List.Sorted.{IsStrictlySortedBy}
use Rattle.std.specs.Map.{keys_of}
use Rattle.dots.specs.Bytes.{bytes_cmp}
use Rattle.dots.specs.Dot.{DotValue}
use Rattle.causal_context.specs.Dots.{dot_cmp}
use Rattle.wire_form.specs.declared.page.Page.{Page}
use Rattle.wire_form.specs.declared.page.Page.TheVariants as variants
use Rattle.wire_form.specs.Spelling.{byte, IsByte, pair, IsPair, counted, AreCounted}
use Rattle.wire_form.specs.Parts.{text, IsText, dot_bytes, IsDot}

-- what a contract sees of the names in a field, of the fields of a key, and of a key with its fields
abbrev pub NamesValue : Type 0
NamesValue = List (DotValue × List ℕ)

abbrev pub NamedValue : Type 0
NamedValue = List (List ℕ × NamesValue)

abbrev pub EntryValue : Type 0
EntryValue = List ℕ × NamedValue

-- a page, by its kind
pub data PageValue : Type 0 where
  OneKey : EntryValue → PageValue
  Keys : List EntryValue → PageValue
  Branch : List (ℕ × List ℕ) → PageValue

-- what a page says, wherever it lies in memory
abbrev pub value_of : {A : Type 0} → Page A → PageValue
value_of (variants.OneKey key fields) = OneKey (key, fields)
value_of (variants.Keys entries) = Keys entries.items
value_of (variants.Branch children) = Branch children.items

-- a digest: its 32 bytes, as they are
abbrev pub digest : List ℕ → List ℕ
digest bytes = bytes

abbrev pub IsDigest : List ℕ → Type 0
IsDigest bytes = length bytes ≡ 32

-- the names in a field: by ascending dot, each dot once, a dot and a digest each
abbrev pub names : NamesValue → List ℕ
names = counted (pair dot_bytes digest)

pub record AreNames (ns : NamesValue) : Type 0 where
  pub each : AreCounted (IsPair IsDot IsDigest) ns
  pub ascend : IsStrictlySortedBy dot_cmp (keys_of ns)

-- the fields of a key: by ascending field, each field once, a field and its names each
abbrev pub named : NamedValue → List ℕ
named = counted (pair text names)

pub record AreNamed (fs : NamedValue) : Type 0 where
  pub each : AreCounted (IsPair IsText AreNames) fs
  pub ascend : IsStrictlySortedBy bytes_cmp (keys_of fs)

-- a key and its fields
abbrev pub entry : EntryValue → List ℕ
entry = pair text named

abbrev pub IsEntry : EntryValue → Type 0
IsEntry = IsPair IsText AreNamed

-- a child of a branch: its index in one byte, and its digest
abbrev pub child : ℕ × List ℕ → List ℕ
child = pair byte digest

abbrev pub IsChild : ℕ × List ℕ → Type 0
IsChild = IsPair IsByte IsDigest

-- the bytes of a page
abbrev pub spelled : PageValue → List ℕ
spelled (OneKey e) = 0 ∷ entry e
spelled (Keys es) = 1 ∷ flat_map entry es
spelled (Branch cs) = 2 ∷ flat_map child cs

-- which pages have a spelling
abbrev pub ArePartsOf : PageValue → Type 0
ArePartsOf (OneKey e) = IsEntry e
ArePartsOf (Keys es) = AllByRecursion IsEntry es
ArePartsOf (Branch cs) = AllByRecursion IsChild cs

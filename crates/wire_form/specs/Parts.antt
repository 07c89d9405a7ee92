-- The parts of messages and the one spelling of each. Of this project. Numbers are big-endian.
--
-- Example: the dot 1:258 is spelled by 00 00 00 00 00 00 00 01 and 00 00 00 00 00 00 01 02.
use Rattle.std.specs.Prelude.{ℕ, ◌≤◌, List, ◌++◌, length}
use Rattle.std.specs.Int.{w16, to_be_bytes}
use Rattle.std.specs.List.Sorted.{IsStrictlySortedBy}
use Rattle.std.specs.Map.{keys_of}
use Rattle.dots.specs.Bytes.{MAX_LENGTH, bytes_cmp}
use Rattle.dots.specs.Dot.{DotValue}
use Rattle.causal_context.specs.Context.{ContextValue}
use Rattle.causal_context.specs.Canonical.{IsCanonical}
use Rattle.causal_context.specs.Dots.{dot_cmp}
use Rattle.dot_store.specs.Stores.{at_values, NoKeyIsEmpty}
use Rattle.causal_join.specs.OrMap.{ValuesValue, FieldsValue}
use Rattle.wire_form.specs.Spelling.{number, IsNumber, pair, IsPair, counted, AreCounted}

-- a name is a number from 1
abbrev pub IsName : ℕ → Type 0
IsName n = (1 ≤ n) × IsNumber n

-- the bytes of a key, a field or a value: their number in two bytes, and then they themselves
unfoldable pub text : List ℕ → List ℕ
text bytes = to_be_bytes w16 (length bytes) ++ bytes

abbrev pub IsText : List ℕ → Type 0
IsText bytes = length bytes ≤ MAX_LENGTH

-- a dot: its name and its number, both from 1
abbrev pub dot_bytes : DotValue → List ℕ
dot_bytes d = number d.name ++ number d.number

abbrev pub IsDot : DotValue → Type 0
IsDot d = IsName d.name × IsName d.number

-- an entry of a version vector: a name and the number up to which its dots are known
abbrev pub entry : ℕ × ℕ → List ℕ
entry = pair number number

abbrev pub IsEntry : ℕ × ℕ → Type 0
IsEntry = IsPair IsName IsNumber

-- a causal context: the entries of the vector, and the dots of the cloud
abbrev pub context : ContextValue → List ℕ
context c = counted entry c.vector ++ counted dot_bytes c.cloud

pub record IsContext (c : ContextValue) : Type 0 where
  pub entries : AreCounted IsEntry c.vector
  pub dots : AreCounted IsDot c.cloud
  pub canonical : IsCanonical c

-- the values of a field: by ascending dot, each dot once, a dot and a value each
abbrev pub values_bytes : ValuesValue → List ℕ
values_bytes = counted (pair dot_bytes text)

pub record AreValues (vs : ValuesValue) : Type 0 where
  pub each : AreCounted (IsPair IsDot IsText) vs
  pub ascend : IsStrictlySortedBy dot_cmp (keys_of vs)

-- the fields of a key: by ascending field, each field once, a field and its values each, of which there is at least one
abbrev pub fields_bytes : FieldsValue → List ℕ
fields_bytes = counted (pair text values_bytes)

pub record AreFields (fs : FieldsValue) : Type 0 where
  pub each : AreCounted (IsPair IsText AreValues) fs
  pub ascend : IsStrictlySortedBy bytes_cmp (keys_of fs)
  pub filled : NoKeyIsEmpty at_values fs

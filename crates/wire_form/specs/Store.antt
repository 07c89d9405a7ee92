-- The store of a delta and its one spelling. Of this project.
--
-- A store is plain where each key has the empty field alone, as after plain puts. A plain store is spelled as keys with
-- their values, and any other as keys with their fields, so that plain writes take no bytes for fields.
--
-- Example: with x under the dot 1:1 at the key a and the empty field, the store is plain, and is spelled by the count 1,
-- the text a, the count 1, the dot 1:1 and the text x. At the field f in place of the empty one it is not, and the count
-- 1 and the text f stand behind the text a.
use Rattle.std.specs.Prelude.{◌≡◌, ℕ, Bool, true, false, ◌&&◌, ◌==◌, List, [], ◌∷◌, length}
use Rattle.std.specs.List.Sorted.{IsStrictlySortedBy}
use Rattle.std.specs.Map.{keys_of}
use Rattle.dots.specs.Bytes.{bytes_cmp}
use Rattle.dot_store.specs.Stores.{NoKeyIsEmpty}
use Rattle.causal_join.specs.OrMap.{ValuesValue, FieldsValue, OrMapStoreValue, fields_at}
use Rattle.wire_form.specs.Spelling.{pair, IsPair, counted, AreCounted}
use Rattle.wire_form.specs.Parts.{text, IsText, values_bytes, fields_bytes, AreFields}

-- whether the empty field is there, and no other
abbrev pub is_sole : FieldsValue → Bool
is_sole [] = false
is_sole (f ∷ []) = length f.0 == 0
is_sole (f ∷ g ∷ fs) = false

-- the fields of a key that has these values at the empty field, and no other field
abbrev pub alone : ValuesValue → FieldsValue
alone vs = ([], vs) ∷ []

-- the values of the first field
abbrev pub first_values : FieldsValue → ValuesValue
first_values [] = []
first_values (f ∷ fs) = f.1

-- whether each key has the empty field alone
abbrev pub is_plain_form : OrMapStoreValue → Bool
is_plain_form [] = true
is_plain_form (e ∷ es) = is_sole e.1 && is_plain_form es

-- the fields of a key by the values of the empty one, and all fields that are spelled so
abbrev pub sole : FieldsValue → List ℕ
sole fs = values_bytes (first_values fs)

pub record AreSole (fs : FieldsValue) : Type 0 where
  pub lawful : AreFields fs
  pub form : is_sole fs ≡ true

-- a store in either form: by ascending key, each key once, a key and its fields each, of which there is at least one
abbrev pub store : Bool → OrMapStoreValue → List ℕ
store true = counted (pair text sole)
store false = counted (pair text fields_bytes)

pub record IsStore (s : OrMapStoreValue) : Type 0 where
  pub each : AreCounted (IsPair IsText AreFields) s
  pub ascend : IsStrictlySortedBy bytes_cmp (keys_of s)
  pub filled : NoKeyIsEmpty fields_at s

-- which stores are spelled in this form
pub record IsStoreOf (plain : Bool) (s : OrMapStoreValue) : Type 0 where
  pub lawful : IsStore s
  pub form : is_plain_form s ≡ plain

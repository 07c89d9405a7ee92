-- The map that stands for a set of operations, and for a state: what the digests of a replica are told of. Of this project.
--
-- Example: for {1:1 puts x on a} it is {a -> {the empty field -> {1:1 -> x}}}. With an erasure besides that observed 1:1 it is
-- the map with no key.
use Rattle.std.specs.Prelude.{◌≡◌, ℕ, List, [], map, Option, Some}
use Rattle.std.specs.FinMap as finite
use Rattle.std.specs.List.Sorted.{IsStrictlySortedBy}
use Rattle.std.specs.Map.{keys_of}
use Rattle.causal_context.specs.Dots.{dot_cmp}
use Rattle.causal_join.specs.OrMap.{ValuesValue, FieldsValue, fields_at}
use Rattle.dot_store.specs.Store.{HasNothing}
use Rattle.dot_store.specs.Stores.{at_values, held_by, IsCanonicalMap}
use Rattle.dots.specs.Bytes.{bytes_cmp}
use Rattle.dots.specs.declared.dot.Dot.{Dot}
use Rattle.op_model.specs.Meaning.{MapState}
use Rattle.op_model.specs.Operation.{Operation}
use Rattle.op_model.specs.Place.{Place, place_of}
use Rattle.op_model.specs.Shown.{shown, fields, keys}
use Rattle.prefix_digest.specs.Page.{digest_at}

-- the values that a place shows, by the dots of their writes, ascending
abbrev pub values_by_dot : List Operation → Place → ValuesValue
values_by_dot S place = finite.entries (finite.from_entries {R = dot_cmp} (map (λ w. (w.id, w.value)) (shown S place)))

-- the fields of a key that show a value, ascending, each with these
abbrev pub fields_by_dot : List Operation → List ℕ → FieldsValue
fields_by_dot S key = map (λ field. (field, values_by_dot S (place_of key field))) (fields S key)

-- the map of the keys that show a value, each with these
abbrev pub map_of : List Operation → finite.FinMap bytes_cmp FieldsValue
map_of S = finite.from_entries (map (λ key. (key, fields_by_dot S key)) (keys S))

-- the root digest of a replica that has seen these operations: none where no key shows a value
unfoldable pub root_digest : (List ℕ → ℕ) → List Operation → Option (List ℕ)
root_digest hash_of S = digest_at hash_of (map_of S) []

-- The same by what a map and a state hold. The fields of a key are in order: they ascend, each once, none holds nothing, and
-- the dots of each ascend, each once.
abbrev pub IsInOrder : FieldsValue → Type 0
IsInOrder = IsCanonicalMap at_values bytes_cmp (λ values. IsStrictlySortedBy dot_cmp (keys_of values))

-- the map stands for the state: it holds at each place and dot what stands there, no key holds nothing, and the fields of each
-- are in order
pub record IsMapOf (m : finite.FinMap bytes_cmp FieldsValue) (p : MapState) : Type 0 where
  pub at : (place : Place) (dot : Dot) → held_by fields_at (finite.get m place.key) (place.field, tt) dot ≡ p.at place dot
  pub filled : (key : List ℕ) (held : FieldsValue) → finite.get m key ≡ Some held → ¬ HasNothing (fields_at held)
  pub ordered : (key : List ℕ) (held : FieldsValue) → finite.get m key ≡ Some held → IsInOrder held

-- What a pair of the observed-remove map stands for, in the words of the model: at each place and dot the value that
-- stands there, and which dots are known. After Almeida, Shoker and Baquero, "Delta State Replicated Data Types" (2018):
-- the observed-remove map of multi-value registers is a map from keys to maps from dots to values; here with a map from
-- fields in between.
use Rattle.std.specs.Prelude.{ℕ, List, Option}
use Rattle.causal_context.specs.Context.{ContextValue}
use Rattle.causal_join.specs.Causal.{state_of}
use Rattle.dot_store.specs.Stores.{at_stores, at_values}
use Rattle.dots.specs.Bytes.{bytes_cmp}
use Rattle.dots.specs.Dot.{DotValue}
use Rattle.op_model.specs.Meaning.{MapState}
use Rattle.op_model.specs.Place.{Place}
use Rattle.op_model.specs.Reading.{read_at}

-- what a contract sees of the values of a field, of the fields of a key, of the store, and of the pair
abbrev pub ValuesValue : Type 0
ValuesValue = List (DotValue × List ℕ)

abbrev pub FieldsValue : Type 0
FieldsValue = List (List ℕ × ValuesValue)

abbrev pub OrMapStoreValue : Type 0
OrMapStoreValue = List (List ℕ × FieldsValue)

abbrev pub OrMapValue : Type 0
OrMapValue = OrMapStoreValue × ContextValue

-- what stands at a field and no further place, and at a key, a field and no further place
abbrev pub fields_at : FieldsValue → List ℕ × Unit {0} → DotValue → Option (List ℕ)
fields_at = at_stores at_values bytes_cmp

abbrev pub or_map_at : OrMapStoreValue → List ℕ × (List ℕ × Unit {0}) → DotValue → Option (List ℕ)
or_map_at = at_stores fields_at bytes_cmp

-- the path in the store to a place
abbrev pub path_of : Place → List ℕ × (List ℕ × Unit {0})
path_of place = (place.key, (place.field, tt))

-- the state that a pair stands for
abbrev pub or_map_state : OrMapValue → MapState
or_map_state pair = read_at path_of (state_of or_map_at pair)

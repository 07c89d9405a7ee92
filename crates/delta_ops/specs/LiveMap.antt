-- What a live pair of the observed-remove map stands for, in the words of the model: what the pair of its entries in the
-- order of their keys does. Of this project.
use Rattle.std.specs.Prelude.{[]}
use Rattle.std.specs.FinMap as finite
use Rattle.causal_context.specs.Context.{ContextValue}
use Rattle.causal_join.specs.OrMap.{FieldsValue, OrMapValue, or_map_state}
use Rattle.op_model.specs.Meaning.{MapState}
use Rattle.live_map.specs.Live.{PairValue}
use Rattle.trie_map.specs.Keyed.{TrieMapValue}

-- the pair of the entries and the context
abbrev pub as_or_map : {Hash : Type 0} → PairValue Hash FieldsValue → OrMapValue
as_or_map pair = (finite.entries pair.0.1, pair.1)

-- the state that a live pair stands for
abbrev pub live_state : {Hash : Type 0} → PairValue Hash FieldsValue → MapState
live_state pair = or_map_state (as_or_map pair)

-- the context of no dot
abbrev pub no_dots : ContextValue
no_dots = record { vector = []; cloud = [] }

-- what stands in a store by itself: its state where no dot is known
abbrev pub store_state : {Hash : Type 0} → TrieMapValue Hash FieldsValue → MapState
store_state store = live_state (store, no_dots)

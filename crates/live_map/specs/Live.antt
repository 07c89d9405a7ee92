-- What a contract sees of a live pair. Of this project.
use Rattle.std.specs.Prelude.{List}
use Rattle.std.specs.Coded.{Coded, coded×, coded_list, coded_ℕ}
use Rattle.std.specs.FinMap as finite
use Rattle.causal_context.specs.Code.{context_code}
use Rattle.causal_context.specs.Context.{ContextValue}
use Rattle.dots.specs.Code.{dot_code}
use Rattle.trie_map.specs.Keyed.{TrieMapValue}
use Rattle.live_map.specs.Index.{PlaceValue}

-- the store with its hash, and the context
abbrev pub PairValue : Type 0 → Type 0 → Type 0
PairValue Hash S = TrieMapValue Hash S × ContextValue

-- the pair, and the places of its index
abbrev pub LiveValue : Type 0 → Type 0 → Type 0
LiveValue Hash S = PairValue Hash S × List PlaceValue

-- a pair is stored as its parts
abbrev pub pair_code : {Hash S : Type 0} → Coded Hash → Coded S → Coded (PairValue Hash S)
pair_code hash store = coded× (coded× hash (finite.code (coded_list coded_ℕ) store)) context_code

abbrev pub live_code : {Hash S : Type 0} → Coded Hash → Coded S → Coded (LiveValue Hash S)
live_code hash store = coded× (pair_code hash store) (coded_list (coded× dot_code (coded_list coded_ℕ)))

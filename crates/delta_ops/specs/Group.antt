-- Groups of deltas, after Almeida, Shoker and Baquero, "Delta State Replicated Data Types" (2018): a delta group is the
-- join of some deltas.
use Rattle.std.specs.Prelude.{List, [], fold}
use Rattle.causal_join.specs.OrMap.{OrMapValue, or_map_state}
use Rattle.op_model.specs.Meaning.{MapState, greater, state}
use Rattle.op_model.specs.State.{join}

-- the group of these pairs: their join, from the state of no operation on
abbrev pub group_state : List OrMapValue → MapState
group_state pairs = fold (λ group pair. join greater group (or_map_state pair)) (state []) pairs

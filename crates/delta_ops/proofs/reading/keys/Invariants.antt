use Rattle.std.proofs.Common.{ℕ, List, Contains}
use Rattle.op_model.specs.Meaning.{HoldsKey}
use Rattle.op_model.specs.Shown.{IsAscending}
use Rattle.trie_map.proofs.Visits.{Visits}
use Rattle.delta_ops.specs.LiveMap.{store_state}
use Rattle.delta_ops.proofs.reading.keys.Given as goal

abbrev pub invariant-loop-key : goal.invariant-loop-key
invariant-loop-key g l =
    Visits l.store.1 l.key-iterator (Contains l.found.keys) × IsAscending l.found.keys
    × ((q : List ℕ) → Contains l.found.keys q → HoldsKey (store_state l.store) q)

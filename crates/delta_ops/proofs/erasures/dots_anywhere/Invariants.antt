use Rattle.std.specs.Prelude.{IsTrue}
use Rattle.causal_join.specs.OrMap.{fields_at}
use Rattle.dot_store.specs.Store.{HoldsDot}
use Rattle.dots.specs.Dot.{DotValue}
use Rattle.op_model.specs.Made.{IsAnywhere}
use Rattle.op_model.specs.Operation.{has as is_among}
use Rattle.trie_map.proofs.Visits.{Visits, Reached}
use Rattle.delta_ops.specs.LiveMap.{live_state}
use Rattle.delta_ops.proofs.erasures.dots_anywhere.Given as goal

abbrev pub invariant-loop-fields : goal.invariant-loop-fields
invariant-loop-fields g l =
    Visits l.live.0.0.1 l.fields-iterator (Reached l.live.0.0.1 (λ fields. (d : DotValue) → HoldsDot (fields_at fields) d → IsTrue (is_among l.dots.keys d)))
    × ((d : DotValue) → IsTrue (is_among l.dots.keys d) → IsAnywhere (live_state l.live.0) d)

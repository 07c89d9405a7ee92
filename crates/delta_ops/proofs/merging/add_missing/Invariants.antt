use Rattle.std.proofs.Common.{◌≡◌, ◌⊎◌, None}
use Rattle.std.specs.Prelude.{IsTrue}
use Rattle.causal_context.specs.Context.{in_cloud}
use Rattle.causal_join.specs.OrMap.{or_map_at}
use Rattle.dots.specs.Dot.{DotValue}
use Rattle.op_model.specs.Operation.{has as is_among}
use Rattle.delta_ops.proofs.merging.add_missing.Given as goal

abbrev pub invariant-loop-dot : goal.invariant-loop-dot
invariant-loop-dot g l = (d : DotValue) → IsTrue (is_among l.dots.keys d)
    → IsTrue (is_among l.fn.dots.keys d) ⊎ (IsTrue (in_cloud l.known d) × ((place : _) → or_map_at l.store place d ≡ None))

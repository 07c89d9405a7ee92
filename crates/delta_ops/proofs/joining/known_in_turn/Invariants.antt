use Rattle.std.proofs.Common.{◌≡◌, take}
use Rattle.causal_context.specs.Context.{has}
use Rattle.delta_ops.specs.Group.{group_state}
use Rattle.delta_ops.specs.Log.{deltas_of}
use Rattle.dots.specs.Dot.{DotValue}
use Rattle.op_model.specs.State.{IsInside}
use Rattle.delta_ops.proofs.joining.known_in_turn.Given as goal

abbrev pub invariant-loop-delta : goal.invariant-loop-delta
invariant-loop-delta g l = ((d : DotValue) → has l.known d ≡ (group_state (deltas_of (take l.delta-index l.deltas))).has d)
    × IsInside (group_state (deltas_of (take l.delta-index l.deltas)))

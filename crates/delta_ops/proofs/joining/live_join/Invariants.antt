use Rattle.std.proofs.Common.{take}
use Rattle.delta_ops.specs.Group.{group_state}
use Rattle.delta_ops.specs.Log.{deltas_of}
use Rattle.delta_ops.proofs.Stacking.{IsStacked}
use Rattle.delta_ops.proofs.joining.live_join.Given as goal

abbrev pub invariant-loop-delta : goal.invariant-loop-delta
invariant-loop-delta g l = IsStacked l.fn.base (group_state (deltas_of (take l.delta-index l.deltas))) l.live.0

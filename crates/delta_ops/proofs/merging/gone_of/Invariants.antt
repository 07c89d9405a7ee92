use Rattle.std.proofs.Common.{take}
use Rattle.std.specs.Prelude.{IsTrue}
use Rattle.delta_ops.specs.Group.{group_state}
use Rattle.delta_ops.specs.Log.{deltas_of}
use Rattle.delta_ops.specs.Merging.{IsGone}
use Rattle.dots.specs.Dot.{DotValue}
use Rattle.op_model.specs.Operation.{has as is_among}
use Rattle.delta_ops.proofs.merging.gone_of.Given as goal

abbrev pub invariant-loop-delta : goal.invariant-loop-delta
invariant-loop-delta g l = (d : DotValue) → IsTrue (is_among l.dots.keys d) → IsGone (group_state (deltas_of (take l.delta-index l.deltas))) d

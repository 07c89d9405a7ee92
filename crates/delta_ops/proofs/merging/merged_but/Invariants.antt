use Rattle.std.proofs.Common.{take}
use Rattle.delta_ops.specs.Group.{group_state}
use Rattle.delta_ops.specs.Log.{deltas_of}
use Rattle.delta_ops.specs.Merging.{IsMerged}
use Rattle.delta_ops.proofs.merging.merged_but.Given as goal

abbrev pub invariant-loop-delta : goal.invariant-loop-delta
invariant-loop-delta g l = IsMerged l.gone (group_state (deltas_of (take l.delta-index l.deltas))) l.stores.entries l.known

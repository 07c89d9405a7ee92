use Rattle.std.proofs.Common.{◌≡◌, take}
use Rattle.delta_ops.specs.Log.{deltas_of}
use Rattle.delta_ops.proofs.outgoing.shared.Given as goal

abbrev pub invariant-loop-delta : goal.invariant-loop-delta
invariant-loop-delta g l = deltas_of l.copies.items ≡ deltas_of (take l.delta-index l.deltas.items)

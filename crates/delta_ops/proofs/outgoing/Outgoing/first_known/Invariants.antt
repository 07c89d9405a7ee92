use Rattle.std.proofs.Common.{◌≡◌, false, take}
use Rattle.dots.specs.Dot.{DotValue}
use Rattle.delta_ops.specs.Group.{group_state}
use Rattle.delta_ops.specs.Log.{deltas_of}
use Rattle.delta_ops.proofs.outgoing.Outgoing.first_known.Given as goal

-- src/outgoing.rt
abbrev pub invariant-loop-delta : goal.invariant-loop-delta
invariant-loop-delta g l =
    (l.number ≡ l.delta-index) × ((d : DotValue) → (group_state (deltas_of (take l.delta-index l.delta-items))).has d ≡ false)

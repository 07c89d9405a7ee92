use Rattle.std.proofs.Common.{◌≡◌, ◌⊎◌, ◌≤◌, ◌-◌, length}
use Rattle.replica_core.specs.Carrying.{letter_of}
use Rattle.replica_core.specs.Cutting.{IsFront}
use Rattle.replica_core.proofs.cutting.longest.Given as goal

abbrev pub invariant-loop-number : goal.invariant-loop-number
invariant-loop-number g l =
    IsFront l.group l.number (letter_of l.letter) × ((length l.letter.bytes.items ≤ l.most) ⊎ (l.number ≡ l.first))
    × (l.first ≤ l.number) × (l.number ≤ length l.group)

abbrev pub decreases-loop-number : goal.decreases-loop-number
decreases-loop-number g l = length l.group - l.number

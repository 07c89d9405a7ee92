use Rattle.std.proofs.Common.{◌≡◌, ◌++◌, ◌≤◌, ◌-◌, length}
use Rattle.wire_form.proofs.prefix.read_indices.Given as goal

abbrev pub invariant-loop-rest : goal.invariant-loop-rest
invariant-loop-rest l = record { parts : l.bytes ≡ l.prefix ++ l.rest; within : length l.prefix ≤ l.depth }

abbrev pub decreases-loop-rest : goal.decreases-loop-rest
decreases-loop-rest l = l.depth - length l.prefix

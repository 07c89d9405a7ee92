use Rattle.std.proofs.Common.{◌≡◌, ◌++◌, length}
use Rattle.wire_form.proofs.prefix.write_indices.Given as goal

abbrev pub invariant-loop-first : goal.invariant-loop-first
invariant-loop-first g l = l.out.items ++ l.rest ≡ l.fn.out.items ++ l.fn.prefix

abbrev pub decreases-loop-first : goal.decreases-loop-first
decreases-loop-first g l = length l.rest

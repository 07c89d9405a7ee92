use Rattle.std.proofs.Common.{◌≡◌, ◌++◌, length}
use Rattle.page_fetching.proofs.waiting.indices_of.Given as goal

abbrev pub invariant-loop-first : goal.invariant-loop-first
invariant-loop-first g l = l.bytes.items ++ l.rest ≡ l.fn.prefix

abbrev pub decreases-loop-first : goal.decreases-loop-first
decreases-loop-first g l = length l.rest

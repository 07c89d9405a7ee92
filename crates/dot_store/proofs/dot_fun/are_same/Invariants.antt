use Rattle.std.proofs.Common.{◌≡◌, ◌+◌, length}
use Rattle.causal_context.specs.Dots.{dot_cmp}
use Rattle.ordered_list.specs.Places.{value_at}
use Rattle.ordered_list.proofs.Walked.{Walked}
use Rattle.dot_store.proofs.dot_fun.are_same.Given as goal

abbrev pub invariant-loop-x : goal.invariant-loop-x
invariant-loop-x g l = Walked dot_cmp l.mine l.yours (λ q. Unit {0}) (λ q. value_at dot_cmp l.mine q ≡ value_at dot_cmp l.yours q) l.merge.0 l.merge.1

abbrev pub decreases-loop-x : goal.decreases-loop-x
decreases-loop-x g l = length l.merge.0 + length l.merge.1

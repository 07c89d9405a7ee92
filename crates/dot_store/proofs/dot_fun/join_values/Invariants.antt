use Rattle.std.proofs.Common.{◌≡◌, ◌+◌, length, None}
use Rattle.std.specs.Ordering.{ord_max}
use Rattle.causal_context.specs.Context.{has}
use Rattle.causal_context.specs.Dots.{dot_cmp}
use Rattle.ordered_list.specs.Places.{value_at}
use Rattle.dot_store.specs.Stores.{joined_value}
use Rattle.ordered_list.proofs.Walked.{Walked}
use Rattle.dot_store.proofs.dot_fun.join_values.Given as goal

abbrev pub invariant-loop-dot : goal.invariant-loop-dot
invariant-loop-dot g l =
    Walked dot_cmp l.mine l.yours (λ q. value_at dot_cmp l.kept q ≡ None)
    (λ q. value_at dot_cmp l.kept q ≡ joined_value (ord_max g.V.Ord.cmp) (value_at dot_cmp l.mine) (has l.own) (value_at dot_cmp l.yours) (has l.theirs) q)
    l.merge.0 l.merge.1

abbrev pub decreases-loop-dot : goal.decreases-loop-dot
decreases-loop-dot g l = length l.merge.0 + length l.merge.1

use Rattle.std.proofs.Common.{◌≡◌, ◌+◌, length, None}
use Rattle.std.specs.Ordering.{nat_cmp}
use Rattle.ordered_list.specs.Places.{value_at}
use Rattle.ordered_list.proofs.Places.{Ascends}
use Rattle.ordered_list.proofs.Walked.{Walked}
use Rattle.causal_context.proofs.Vectors.{IsMergedAt}
use Rattle.causal_context.proofs.vector.merged.Given as goal

abbrev pub invariant-loop-name : goal.invariant-loop-name
invariant-loop-name g l = record {
  walked : Walked nat_cmp l.mine l.yours (λ q. value_at nat_cmp l.both q ≡ None) (λ q. IsMergedAt l.mine l.yours l.both q) l.merge.0 l.merge.1;
  ascend : Ascends nat_cmp l.both;
}

abbrev pub decreases-loop-name : goal.decreases-loop-name
decreases-loop-name g l = length l.merge.0 + length l.merge.1

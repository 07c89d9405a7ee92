use Rattle.std.proofs.Common.{◌≡◌, ◌+◌, ◌||◌, length}
use Rattle.ordered_list.specs.Items.{is_among}
use Rattle.ordered_list.proofs.ordered_set.OrderedSet.union.Given as goal

abbrev pub invariant-loop-item : goal.invariant-loop-item
invariant-loop-item g l = (q : _) → (is_among g.T.Ord.cmp l.both q || (is_among g.T.Ord.cmp l.merge.0 q || is_among g.T.Ord.cmp l.merge.1 q))
    ≡ (is_among g.T.Ord.cmp l.self q || is_among g.T.Ord.cmp l.other q)

abbrev pub decreases-loop-item : goal.decreases-loop-item
decreases-loop-item g l = length l.merge.0 + length l.merge.1

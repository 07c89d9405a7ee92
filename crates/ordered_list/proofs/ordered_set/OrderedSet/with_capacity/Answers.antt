use Rattle.ordered_list.proofs.Items.{ascends_empty}
use Rattle.ordered_list.proofs.ordered_set.OrderedSet.with_capacity.Goals as goal

pub invariant_of-result : goal.invariant_of-result
invariant_of-result g c = ascends_empty g.T.Ord.cmp c.in_ok-items.items.items c.in_ok-items.ensures.items

use Rattle.ordered_list.proofs.Places.{ascends_none}
use Rattle.ordered_list.proofs.ordered_list.OrderedList.with_capacity.Goals as goal

pub invariant_of-result : goal.invariant_of-result
invariant_of-result g c = ascends_none g.K.Ord.cmp c.in_ok-items.items.items c.in_ok-items.ensures.items

use Rattle.ordered_list.proofs.Places.{ascends_none}
use Rattle.ordered_list.proofs.ordered_list.OrderedList.new.Goals as goal

pub invariant_of-result : goal.invariant_of-result
invariant_of-result g c = ascends_none g.K.Ord.cmp c.new.result.items c.new.ensures.items

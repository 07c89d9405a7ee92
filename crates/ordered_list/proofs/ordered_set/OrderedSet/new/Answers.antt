use Rattle.ordered_list.proofs.Items.{ascends_empty}
use Rattle.ordered_list.proofs.ordered_set.OrderedSet.new.Goals as goal

pub invariant_of-result : goal.invariant_of-result
invariant_of-result g c = ascends_empty g.T.Ord.cmp c.new.result.items c.new.ensures.items

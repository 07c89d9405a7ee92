use Rattle.std.proofs.Common.{◌≡◌, ◌≤◌, ◌++◌}
use Rattle.std.specs.Vec.{vec_capacity}
use Rattle.std.specs.Vec.Iter.{into_iter_items}
use Rattle.shared_object.proofs.finishing.gathered.Given as goal

abbrev pub invariant-loop-item : goal.invariant-loop-item
invariant-loop-item g l = (l.all.items ++ into_iter_items l.item-iterator ≡ l.fn.first.items ++ l.fn.second.items)
    × (vec_capacity l.fn.first ≤ vec_capacity l.all)

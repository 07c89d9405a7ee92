use Rattle.std.proofs.Common.{◌+◌, length}
use Rattle.ordered_list.specs.Places.{value_at}
use Rattle.dot_store.specs.Store.{HoldsSame}
use Rattle.dot_store.specs.Stores.{held_by}
use Rattle.ordered_list.proofs.Walked.{Walked}
use Rattle.dot_store.proofs.dot_map.are_same.Given as goal

abbrev pub invariant-loop-x : goal.invariant-loop-x
invariant-loop-x g l =
    Walked g.K.Ord.cmp l.mine l.yours (λ q. Unit {0})
    (λ q. HoldsSame (held_by g.S.DotStore.at (value_at g.K.Ord.cmp l.mine q)) (held_by g.S.DotStore.at (value_at g.K.Ord.cmp l.yours q))) l.merge.0 l.merge.1

abbrev pub decreases-loop-x : goal.decreases-loop-x
decreases-loop-x g l = length l.merge.0 + length l.merge.1

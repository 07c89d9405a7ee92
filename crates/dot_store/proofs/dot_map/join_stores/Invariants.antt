use Rattle.std.proofs.Common.{◌≡◌, ◌+◌, length, None}
use Rattle.causal_context.specs.Context.{has}
use Rattle.ordered_list.specs.Places.{value_at}
use Rattle.dot_store.specs.Store.{HoldsSame}
use Rattle.dot_store.specs.Stores.{held_by, joined_store, NoKeyIsEmpty, AreCanonical}
use Rattle.ordered_list.proofs.Walked.{Walked}
use Rattle.dot_store.proofs.dot_map.join_stores.Given as goal

abbrev pub invariant-loop-key : goal.invariant-loop-key
invariant-loop-key g l =
    Walked g.K.Ord.cmp l.mine l.yours (λ q. value_at g.K.Ord.cmp l.kept q ≡ None)
    (λ q. HoldsSame (held_by g.S.DotStore.at (value_at g.K.Ord.cmp l.kept q))
    (joined_store g.S.DotStore.at g.S.DotStore.greater (value_at g.K.Ord.cmp l.mine q) (has l.own) (value_at g.K.Ord.cmp l.yours q) (has l.theirs)))
    l.merge.0 l.merge.1
    × NoKeyIsEmpty g.S.DotStore.at l.kept × AreCanonical g.S.DotStore.canonical l.kept

abbrev pub decreases-loop-key : goal.decreases-loop-key
decreases-loop-key g l = length l.merge.0 + length l.merge.1

use Rattle.std.proofs.Common.{take}
use Rattle.ordered_list.specs.Places.{value_at}
use Rattle.dot_store.specs.Store.{HoldsSame}
use Rattle.dot_store.specs.Stores.{held_by, NoKeyIsEmpty, AreCanonical}
use Rattle.dot_store.proofs.dot_map.copied.Given as goal

abbrev pub invariant-loop-key : goal.invariant-loop-key
invariant-loop-key g l =
    ((q : _) → HoldsSame (held_by g.S.DotStore.at (value_at g.K.Ord.cmp l.copies q))
    (held_by g.S.DotStore.at (value_at g.K.Ord.cmp (take l.key-index l.entries) q)))
    × NoKeyIsEmpty g.S.DotStore.at l.copies × AreCanonical g.S.DotStore.canonical l.copies

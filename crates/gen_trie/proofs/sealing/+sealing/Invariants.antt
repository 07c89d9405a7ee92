use Rattle.std.proofs.Common.{◌≡◌, length, take, ◌+◌, ◌*◌}
use Rattle.std.specs.List.{All}
use Rattle.gen_trie.specs.Shapes.{children, height_and_entries, IsNoNewer, IsSealed, StandsBelow}
use Rattle.gen_trie.proofs.sealing.+sealing.Given as goal

-- the levels that are left, each of which is gone through in five steps

abbrev pub decreases-seal_slot : goal.decreases-seal_slot
decreases-seal_slot g l = 5 * l.below + 3

abbrev pub decreases-seal_shared : goal.decreases-seal_shared
decreases-seal_shared g l = 5 * l.node.now.value.0 + 2

abbrev pub decreases-seal_node : goal.decreases-seal_node
decreases-seal_node g l = 5 * l.node.now.0 + 1

abbrev pub decreases-seal_below : goal.decreases-seal_below
decreases-seal_below g l = 5 * (height_and_entries l.shape.now).0

abbrev pub decreases-seal_slots : goal.decreases-seal_slots
decreases-seal_slots g l = 5 * l.below + 4

abbrev pub invariant-seal_slots-loop-at : goal.invariant-seal_slots-loop-at
invariant-seal_slots-loop-at g l =
    (children l.below l.slots.items ≡ children l.below l.fn.slots.items)
    × All (StandsBelow l.below) l.slots.items
    × (length l.slots.items ≡ length l.fn.slots.items)
    × All IsSealed (take l.at l.slots.items)
    × All (IsNoNewer l.generation) l.slots.items

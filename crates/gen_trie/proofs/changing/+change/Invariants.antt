use Rattle.std.proofs.Common.{◌+◌, ◌*◌}
use Rattle.gen_trie.proofs.changing.+change.Given as goal

-- the levels that are left, each of which is gone through in four steps

abbrev pub decreases-change_node : goal.decreases-change_node
decreases-change_node g l = 4 * l.node.now.0 + 1

abbrev pub decreases-change_branch : goal.decreases-change_branch
decreases-change_branch g l = 4 * l.below + 4

abbrev pub decreases-change_slot : goal.decreases-change_slot
decreases-change_slot g l = 4 * l.below + 3

abbrev pub decreases-change_shared : goal.decreases-change_shared
decreases-change_shared g l = 4 * l.node.now.value.0 + 2

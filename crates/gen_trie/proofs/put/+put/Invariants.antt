use Rattle.std.proofs.Common.{◌+◌, ◌*◌}
use Rattle.gen_trie.proofs.put.+put.Given as goal

-- the levels that are left, each of which is gone through in four steps

abbrev pub decreases-put : goal.decreases-put
decreases-put g l = 4 * l.node.now.0 + 1

abbrev pub decreases-put_branch : goal.decreases-put_branch
decreases-put_branch g l = 4 * l.below + 4

abbrev pub decreases-put_slot : goal.decreases-put_slot
decreases-put_slot g l = 4 * l.below + 3

abbrev pub decreases-pair : goal.decreases-pair
decreases-pair g l = 4 * l.height + 2

abbrev pub decreases-put_shared : goal.decreases-put_shared
decreases-put_shared g l = 4 * l.node.now.value.0 + 2

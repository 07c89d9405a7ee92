use Rattle.std.proofs.Common.{◌+◌, ◌*◌}
use Rattle.gen_trie.proofs.sealing.+counting.Given as goal

-- the levels that are left, each of which is gone through in three steps

abbrev pub decreases-stamped_in : goal.decreases-stamped_in
decreases-stamped_in g l = 3 * l.below + 1

abbrev pub decreases-stamped_at : goal.decreases-stamped_at
decreases-stamped_at g l = 3 * l.node.now.0

abbrev pub decreases-stamped_of : goal.decreases-stamped_of
decreases-stamped_of g l = 3 * l.below + 2

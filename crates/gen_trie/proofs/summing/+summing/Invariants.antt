use Rattle.std.proofs.Common.{length, ◌+◌, ◌*◌}
use Rattle.gen_trie.proofs.summing.+summing.Given as goal

-- the levels that are left, each of which is gone through in a step for each of its 32 children at most, and some more

abbrev pub decreases-sum_of : goal.decreases-sum_of
decreases-sum_of g l = 40 * l.below + 1

abbrev pub decreases-summary : goal.decreases-summary
decreases-summary g l = 40 * l.node.now.0

abbrev pub decreases-branch_of : goal.decreases-branch_of
decreases-branch_of g l = 40 * l.below + (2 + length l.slots.now)

use Rattle.std.proofs.Common.{◌+◌, ◌*◌}
use Rattle.gen_trie.proofs.take.+take.Given as goal

-- the levels that are left, each of which is gone through in four steps

abbrev pub decreases-take : goal.decreases-take
decreases-take g l = 4 * l.node.now.0 + 1

abbrev pub decreases-take_branch : goal.decreases-take_branch
decreases-take_branch g l = 4 * l.below + 4

abbrev pub decreases-take_below : goal.decreases-take_below
decreases-take_below g l = 4 * l.below + 3

abbrev pub decreases-take_shared : goal.decreases-take_shared
decreases-take_shared g l = 4 * l.node.now.value.0 + 2

use Rattle.std.proofs.Common.{◌+◌, ◌*◌}
use Rattle.gen_trie.proofs.seeking.+seeking.Given as goal

-- the levels that are left, each of which is gone through in two steps

abbrev pub decreases-slot_below : goal.decreases-slot_below
decreases-slot_below g l = 2 * l.height + 1

abbrev pub decreases-slot_under : goal.decreases-slot_under
decreases-slot_under g l = 2 * l.node.now.0

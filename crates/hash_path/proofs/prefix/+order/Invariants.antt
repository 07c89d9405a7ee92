use Rattle.std.proofs.Common.{◌+◌, ◌*◌, length}
use Rattle.hash_path.proofs.prefix.+order.Given as goal

-- the indices that are left, each of which is gone through in two steps

abbrev pub decreases-order : goal.decreases-order
decreases-order l = 2 * length l.mine

abbrev pub decreases-order_behind : goal.decreases-order_behind
decreases-order_behind l = 2 * length l.mine.1 + 1

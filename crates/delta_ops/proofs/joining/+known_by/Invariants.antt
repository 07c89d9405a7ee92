use Rattle.std.proofs.Common.{length}
use Rattle.delta_ops.proofs.joining.+known_by.Given as goal

abbrev pub decreases-known_by : goal.decreases-known_by
decreases-known_by g l = length l.deltas.now

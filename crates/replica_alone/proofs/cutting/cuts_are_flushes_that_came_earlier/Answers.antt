use Rattle.replica_alone.proofs.CutFlushes.{cuts_are_flushes}
use Rattle.replica_alone.proofs.cutting.cuts_are_flushes_that_came_earlier.Goals as goal

pub returns : goal.returns
returns c = cuts_are_flushes

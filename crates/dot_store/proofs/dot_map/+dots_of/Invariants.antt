use Rattle.std.proofs.Common.{length}
use Rattle.dot_store.proofs.dot_map.+dots_of.Given as goal

abbrev pub decreases-dots_of : goal.decreases-dots_of
decreases-dots_of g l = length l.stores.now

use Rattle.shared_object.proofs.Calls.{zeros_at}
use Rattle.shared_object.proofs.guarded.no_counts.Goals as goal

pub returns : goal.returns
returns c = zeros_at 64

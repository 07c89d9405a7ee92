use Rattle.replica_core.proofs.KnownFetch.{known_steps}
use Rattle.replica_core.proofs.laws.what_is_built_is_known.Goals as goal

pub returns : goal.returns
returns c = known_steps

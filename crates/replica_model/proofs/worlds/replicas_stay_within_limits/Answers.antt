use Rattle.replica_model.proofs.Limits.{limits}
use Rattle.replica_model.proofs.worlds.replicas_stay_within_limits.Goals as goal

pub returns : goal.returns
returns c = limits

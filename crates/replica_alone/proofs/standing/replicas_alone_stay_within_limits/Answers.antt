use Rattle.replica_alone.proofs.Limits.{limits_alone}
use Rattle.replica_alone.proofs.standing.replicas_alone_stay_within_limits.Goals as goal

pub returns : goal.returns
returns c = limits_alone

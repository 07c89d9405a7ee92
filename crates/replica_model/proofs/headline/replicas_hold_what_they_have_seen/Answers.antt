use Rattle.replica_model.proofs.Meant.{headline}
use Rattle.replica_model.proofs.headline.replicas_hold_what_they_have_seen.Goals as goal

pub returns : goal.returns
returns c = headline

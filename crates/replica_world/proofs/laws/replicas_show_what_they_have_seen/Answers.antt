use Rattle.replica_world.proofs.Shown.{worlds_show}
use Rattle.replica_world.proofs.laws.replicas_show_what_they_have_seen.Goals as goal

pub returns : goal.returns
returns c = worlds_show

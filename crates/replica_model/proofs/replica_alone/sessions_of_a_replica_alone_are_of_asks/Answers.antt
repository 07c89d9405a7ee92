use Rattle.replica_model.proofs.SessionsAlone.{sessions_alone}
use Rattle.replica_model.proofs.replica_alone.sessions_of_a_replica_alone_are_of_asks.Goals as goal

pub returns : goal.returns
returns c = sessions_alone

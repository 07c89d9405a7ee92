use Rattle.replica_model.proofs.Fronts.{sessions_are}
use Rattle.replica_model.proofs.sessions.sessions_are_of_asks_and_snapshots.Goals as goal

pub returns : goal.returns
returns c = sessions_are

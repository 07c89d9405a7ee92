use Rattle.replica_model.proofs.Askers.{snapshots_for}
use Rattle.replica_model.proofs.sessions.snapshots_are_for_what_askers_knew.Goals as goal

pub returns : goal.returns
returns c = snapshots_for

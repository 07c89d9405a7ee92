use Rattle.replica_model.proofs.Fronts.{openings_are}
use Rattle.replica_model.proofs.sessions.openings_are_of_snapshots.Goals as goal

pub returns : goal.returns
returns c = openings_are

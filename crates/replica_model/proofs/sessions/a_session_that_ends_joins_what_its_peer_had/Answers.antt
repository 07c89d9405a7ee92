use Rattle.replica_model.proofs.Ended.{ends_are}
use Rattle.replica_model.proofs.sessions.a_session_that_ends_joins_what_its_peer_had.Goals as goal

pub returns : goal.returns
returns c = ends_are

use Rattle.sync_model.proofs.Ended.{done}
use Rattle.sync_model.proofs.sessions.a_session_that_ends_adds_what_its_peer_had_seen.Goals as goal

pub returns : goal.returns
returns c = done

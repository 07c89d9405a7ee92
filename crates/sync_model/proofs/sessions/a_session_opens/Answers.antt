use Rattle.sync_model.proofs.Ended.{opens}
use Rattle.sync_model.proofs.sessions.a_session_opens.Goals as goal

pub returns : goal.returns
returns c = opens

use Rattle.sync_model.proofs.Ended.{goes_on}
use Rattle.sync_model.proofs.sessions.a_session_goes_on.Goals as goal

pub returns : goal.returns
returns c = goes_on

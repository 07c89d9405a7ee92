use Rattle.sync_model.proofs.Fitted.{opening}
use Rattle.sync_model.proofs.laws.openings_fit.Goals as goal

pub returns : goal.returns
returns c = opening

use Rattle.sync_model.proofs.Fitted.{fitting}
use Rattle.sync_model.proofs.laws.pages_fit.Goals as goal

pub returns : goal.returns
returns c = fitting

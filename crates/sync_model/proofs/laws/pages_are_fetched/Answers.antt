use Rattle.sync_model.proofs.Fetches.{fetching}
use Rattle.sync_model.proofs.laws.pages_are_fetched.Goals as goal

pub returns : goal.returns
returns c = fetching

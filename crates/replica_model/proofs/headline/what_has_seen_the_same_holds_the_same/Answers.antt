use Rattle.replica_model.proofs.Meant.{same_seen}
use Rattle.replica_model.proofs.headline.what_has_seen_the_same_holds_the_same.Goals as goal

pub returns : goal.returns
returns c = same_seen

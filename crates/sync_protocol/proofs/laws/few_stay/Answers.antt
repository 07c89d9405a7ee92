use Rattle.sync_protocol.proofs.Kept.{few_after}
use Rattle.sync_protocol.proofs.laws.few_stay.Goals as goal

pub returns : goal.returns
returns g c = few_after

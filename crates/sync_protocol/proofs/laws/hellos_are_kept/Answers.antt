use Rattle.sync_protocol.proofs.Kept.{told_found}
use Rattle.sync_protocol.proofs.laws.hellos_are_kept.Goals as goal

pub returns : goal.returns
returns g c = told_found

use Rattle.sync_protocol.proofs.Told.{hellos_taken}
use Rattle.sync_protocol.proofs.laws.hellos_are_taken.Goals as goal

pub returns : goal.returns
returns g c = hellos_taken g.H.PathHash.hash_of

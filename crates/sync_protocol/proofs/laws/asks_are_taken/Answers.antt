use Rattle.sync_protocol.proofs.Told.{asks_taken}
use Rattle.sync_protocol.proofs.laws.asks_are_taken.Goals as goal

pub returns : goal.returns
returns g c = asks_taken g.H.PathHash.hash_of

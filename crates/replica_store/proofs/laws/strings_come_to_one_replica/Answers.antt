use Rattle.replica_store.proofs.Rebuilt.{one_replica}
use Rattle.replica_store.proofs.laws.strings_come_to_one_replica.Goals as goal

pub returns : goal.returns
returns c = one_replica

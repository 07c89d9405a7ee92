use Rattle.replica_store.proofs.Systems.{crashes_come_back}
use Rattle.replica_store.proofs.laws.crashes_come_back.Goals as goal

pub returns : goal.returns
returns c = crashes_come_back

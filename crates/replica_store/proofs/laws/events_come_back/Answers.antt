use Rattle.replica_store.proofs.Systems.{events_come_back}
use Rattle.replica_store.proofs.laws.events_come_back.Goals as goal

pub returns : goal.returns
returns c = events_come_back

use Rattle.replica_store.proofs.Systems.{all_come_back}
use Rattle.replica_store.proofs.laws.all_come_back.Goals as goal

pub returns : goal.returns
returns c = all_come_back

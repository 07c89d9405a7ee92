use Rattle.replica_store.proofs.Systems.{all_are_saved}
use Rattle.replica_store.proofs.laws.all_are_saved.Goals as goal

pub returns : goal.returns
returns c = all_are_saved

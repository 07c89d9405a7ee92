use Rattle.replica_store.proofs.Systems.{writes_are_saved}
use Rattle.replica_store.proofs.laws.writes_are_saved.Goals as goal

pub returns : goal.returns
returns c = writes_are_saved

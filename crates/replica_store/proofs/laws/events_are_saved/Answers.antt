use Rattle.replica_store.proofs.Systems.{events_are_saved}
use Rattle.replica_store.proofs.laws.events_are_saved.Goals as goal

pub returns : goal.returns
returns c = events_are_saved

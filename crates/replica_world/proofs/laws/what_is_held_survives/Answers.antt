use Rattle.replica_world.proofs.Held.{held_survives}
use Rattle.replica_world.proofs.laws.what_is_held_survives.Goals as goal

pub returns : goal.returns
returns c = held_survives

use Rattle.replica_core.proofs.Lost.{none_has_lost}
use Rattle.replica_core.proofs.laws.no_message_of_a_world_tells_of_a_lost_memory.Goals as goal

pub returns : goal.returns
returns c = none_has_lost

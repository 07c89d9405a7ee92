use Rattle.prefix_digest.proofs.MapsOf.{maps_one, stands_for}
use Rattle.prefix_digest.proofs.laws.a_state_has_one_map.Goals as goal

pub returns-clause-one : goal.returns-clause-one
returns-clause-one c = maps_one

pub returns-clause-of_operations : goal.returns-clause-of_operations
returns-clause-of_operations c = stands_for

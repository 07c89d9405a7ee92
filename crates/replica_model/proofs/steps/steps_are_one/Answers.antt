use Rattle.replica_model.proofs.One.{steps_one, refused_none}
use Rattle.replica_model.proofs.steps.steps_are_one.Goals as goal

pub returns-clause-one : goal.returns-clause-one
returns-clause-one c = steps_one

pub returns-clause-refused : goal.returns-clause-refused
returns-clause-refused c = refused_none

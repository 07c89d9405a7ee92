use Rattle.op_model.proofs.Making.{state-inside}
use Rattle.op_model.proofs.sets.states_of_operations.Goals as goal

pub returns-clause-inside : goal.returns-clause-inside
returns-clause-inside c = state-inside

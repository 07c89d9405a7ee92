use Rattle.op_model.proofs.Union.{join-states}
use Rattle.op_model.proofs.sets.states_join.Goals as goal

pub returns : goal.returns
returns c = join-states

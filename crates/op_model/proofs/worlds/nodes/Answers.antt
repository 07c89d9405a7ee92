use Rattle.op_model.proofs.Events.{node_there, node_means}
use Rattle.op_model.proofs.worlds.nodes.Goals as goal

pub returns-clause-there : goal.returns-clause-there
returns-clause-there c = node_there

pub returns-clause-pairs : goal.returns-clause-pairs
returns-clause-pairs c = node_means

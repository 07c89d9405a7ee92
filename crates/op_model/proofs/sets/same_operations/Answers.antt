use Rattle.std.proofs.Common.{ap, length}
use Rattle.op_model.proofs.SameSets.{state-same}
use Rattle.op_model.proofs.Showing.{values-same, values_of_key-same, fields-same, keys-same}
use Rattle.op_model.proofs.sets.same_operations.Goals as goal

pub returns-clause-state : goal.returns-clause-state
returns-clause-state c = state-same

pub returns-clause-values : goal.returns-clause-values
returns-clause-values c = values-same

pub returns-clause-values_of_key : goal.returns-clause-values_of_key
returns-clause-values_of_key c = values_of_key-same

pub returns-clause-fields : goal.returns-clause-fields
returns-clause-fields c = fields-same

pub returns-clause-keys : goal.returns-clause-keys
returns-clause-keys c = keys-same

pub returns-clause-size : goal.returns-clause-size
returns-clause-size c = λ S T same. ap length (keys-same S T same)

use Rattle.std.proofs.Common.{ap, length}
use Rattle.op_model.proofs.Showing.{values_standing, values_of_key_standing, fields_standing, keys_standing}
use Rattle.op_model.proofs.sets.standing.Goals as goal

pub returns-clause-values : goal.returns-clause-values
returns-clause-values c = values_standing

pub returns-clause-values_of_key : goal.returns-clause-values_of_key
returns-clause-values_of_key c = values_of_key_standing

pub returns-clause-fields : goal.returns-clause-fields
returns-clause-fields c = fields_standing

pub returns-clause-keys : goal.returns-clause-keys
returns-clause-keys c = keys_standing

pub returns-clause-size : goal.returns-clause-size
returns-clause-size c = λ S p found same ascending just. ap length (keys_standing S p found same ascending just)

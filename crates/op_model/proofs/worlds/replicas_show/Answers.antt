use Rattle.op_model.specs.World.{after}
use Rattle.op_model.proofs.Fresh.{seen-NoReuse}
use Rattle.op_model.proofs.Showing.{values_standing, values_of_key_standing, fields_standing, keys_standing}
use Rattle.op_model.proofs.worlds.replicas_show.Goals as goal

pub returns-clause-values : goal.returns-clause-values
returns-clause-values c = λ events name p g place found means. values_standing ((after events).seen name) place p found (seen-NoReuse events name) means.seen

pub returns-clause-values_of_key : goal.returns-clause-values_of_key
returns-clause-values_of_key c = λ events name p g key found means. values_of_key_standing ((after events).seen name) key p found
    (seen-NoReuse events name) means.seen

pub returns-clause-fields : goal.returns-clause-fields
returns-clause-fields c = λ events name p g key found means. fields_standing ((after events).seen name) key p found means.seen

pub returns-clause-keys : goal.returns-clause-keys
returns-clause-keys c = λ events name p g found means. keys_standing ((after events).seen name) p found means.seen

pub returns-clause-known : goal.returns-clause-known
returns-clause-known c = λ events name p g dot means. means.seen.has dot

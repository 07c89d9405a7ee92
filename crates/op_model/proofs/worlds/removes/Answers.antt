use Rattle.op_model.proofs.Events.{after_remove, after_remove_at}
use Rattle.op_model.proofs.worlds.removes.Goals as goal

pub returns-clause-at_set : goal.returns-clause-at_set
returns-clause-at_set c = λ events name p g d key means. after_remove events name p g means key d

pub returns-clause-at_pair : goal.returns-clause-at_pair
returns-clause-at_pair c = λ events name p g d key over means. after_remove_at events name p g means key over d

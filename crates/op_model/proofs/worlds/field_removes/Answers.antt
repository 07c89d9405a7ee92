use Rattle.op_model.proofs.Events.{after_remove_field, after_remove_field_at}
use Rattle.op_model.proofs.worlds.field_removes.Goals as goal

pub returns-clause-at_set : goal.returns-clause-at_set
returns-clause-at_set c = λ events name p g d place means. after_remove_field events name p g means place d

pub returns-clause-at_pair : goal.returns-clause-at_pair
returns-clause-at_pair c = λ events name p g d place over means. after_remove_field_at events name p g means place over d

use Rattle.op_model.proofs.Events.{after_clear, after_clear_at}
use Rattle.op_model.proofs.worlds.clears.Goals as goal

pub returns-clause-at_set : goal.returns-clause-at_set
returns-clause-at_set c = λ events name p g d means. after_clear events name p g means d

pub returns-clause-at_pair : goal.returns-clause-at_pair
returns-clause-at_pair c = λ events name p g d over means. after_clear_at events name p g means over d

use Rattle.op_model.proofs.Events.{after_put, after_put_at}
use Rattle.op_model.proofs.worlds.puts.Goals as goal

pub returns-clause-at_set : goal.returns-clause-at_set
returns-clause-at_set c = λ events name p g d place value means. after_put events name p g means place value d

pub returns-clause-at_pair : goal.returns-clause-at_pair
returns-clause-at_pair c = λ events name p g d place value w means. after_put_at events name p g means place value w d

use Rattle.op_model.proofs.Events.{after_deliver}
use Rattle.op_model.proofs.worlds.delivers.Goals as goal

pub returns : goal.returns
returns c = λ events name number p g d means. after_deliver events name p g means number d

use Rattle.std.proofs.lemmas.Result.{IfOk-weaker}
use Rattle.wire_form.specs.Message.{message_of}
use Rattle.ginelm.proofs.guarded.take.Goals as goal

pub returns-in-Ok-clause-ok : goal.returns-in-Ok-clause-ok
returns-in-Ok-clause-ok g c =
    IfOk-weaker c.take_decoded.result _ _ (λ taken came. (message_of c.in-Ok.message, c.in-Ok.ensures.ok, came.0, came.1))
    c.take_decoded.ensures.ok

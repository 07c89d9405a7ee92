use Rattle.std.proofs.lemmas.Result.{IfOk-weaker}
use Rattle.wire_form.specs.Message.{message_of}
use Rattle.replica_core.proofs.replica.Replica.deliver_bytes.Goals as goal

pub returns-clause-ok : goal.returns-clause-ok
returns-clause-ok g c = IfOk-weaker c.deliver-told.result _ _ (λ told steps. (message_of c.in_ok-message.message, c.in_ok-message.ensures.ok, steps))
    c.deliver-told.ensures.ok

use Rattle.std.proofs.Common.{map}
use Rattle.wire_form.specs.Message.{message_of}
use Rattle.replica_model.specs.Mail.{mail_of}
use Rattle.replica_model.specs.Step as step
use Rattle.replica_core.specs.Answered.{outcome_of}
use Rattle.replica_world.proofs.Results.{step_of_messages}
use Rattle.replica_world.proofs.delivering.take.Goals as goal

pub returns-in-Ok-clause-ok : goal.returns-in-Ok-clause-ok
returns-in-Ok-clause-ok g c =
    let told = c.in-Ok.told in (
      map message_of told.replies.items,
      step_of_messages g.H.PathHash.hash_of c.args.replica.now c.deliver_to.new.self (step.Take (mail_of (message_of c.args.message.now)))
          (step.Came (outcome_of told.outcome)) told.replies.items c.in-Ok.ensures.ok,
      c.in-Ok.ensures.posted,
    )

use Rattle.std.proofs.Common.{map, inl}
use Rattle.wire_form.specs.Message.{message_of}
use Rattle.replica_model.specs.Step as step
use Rattle.replica_core.specs.Answered.{outcome_of}
use Rattle.replica_world.proofs.Results.{step_of_messages}
use Rattle.replica_world.proofs.calling.retry.Goals as goal

pub returns-in-Ok-clause-ok : goal.returns-in-Ok-clause-ok
returns-in-Ok-clause-ok g c =
    let told = c.in_ok-told.told in (
      map message_of told.replies.items,
      step_of_messages g.H.PathHash.hash_of c.args.replica.now c.args.replica.now (step.Do (step.Retry c.args.number)) (step.Came (outcome_of told.outcome))
          told.replies.items c.in_ok-told.ensures.ok,
      inl (rw c.as_slice.ensures.value at c.in-Ok.ensures.ok),
    )

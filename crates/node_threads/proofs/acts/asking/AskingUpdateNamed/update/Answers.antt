use Rattle.std.proofs.Common.{[], ◌∷◌}
use Rattle.replica_core.specs.Meaning.{meaning}
use Rattle.replica_model.specs.Mail.{mail_of}
use Rattle.wire_form.specs.Message.{message_of}
use Rattle.replica_model.specs.Step as step
use Rattle.replica_model.specs.Step.{Numbered}
use Rattle.node_threads.specs.declared.deed.Deed.{Deed}
use Rattle.replica_core.specs.declared.call.Call.TheVariants as call
use Rattle.node_threads.specs.declared.deed.Deed.TheVariants as deeds
use Rattle.node_threads.proofs.Stepping.{after_step, foretold_after, refused_after, stands_on, without_memory_after}
use Rattle.node_threads.proofs.acts.asking.AskingUpdateNamed.update.Goals as goal

pub returns-in-Ok-ask-clause-after : goal.returns-in-Ok-ask-clause-after
returns-in-Ok-ask-clause-after g c history place after =
    let it = c.args.self.now in
    let deed : Deed g.row.A.Denot = deeds.Call (call.Ask it.peer) in
    after_step g.K.Naming.first history (meaning c.args.replica.now) (meaning c.ask.new.self) after place deed (Numbered c.in-Ok-ask.reply.0)
    (mail_of (message_of c.in-Ok-ask.reply.1) ∷ []) c.in-Ok-ask.ensures.ok.step

pub returns-in-Ok-ask-clause-root : goal.returns-in-Ok-ask-clause-root
returns-in-Ok-ask-clause-root g c history place after =
    let it = c.args.self.now in
    let deed : Deed g.row.A.Denot = deeds.Call (call.Ask it.peer) in
    stands_on g.K.Naming.first history (meaning c.args.replica.now) (meaning c.ask.new.self) after place deed (Numbered c.in-Ok-ask.reply.0)
    (mail_of (message_of c.in-Ok-ask.reply.1) ∷ []) c.in-Ok-ask.ensures.ok.step c.show-root.result.value c.show-root.ensures

pub returns-in-Some-clause-refused : goal.returns-in-Some-clause-refused
returns-in-Some-clause-refused g c history after =
    let it = c.args.self.now in
    foretold_after g.K.Naming.first history (meaning c.args.replica.now) (step.Ask it.peer) after c.in-Some.refusal (c.in-Some.ensures it.peer)

pub returns-in-Err-clause-refused : goal.returns-in-Err-clause-refused
returns-in-Err-clause-refused g c history after =
    let it = c.args.self.now in
    without_memory_after g.K.Naming.first history (meaning c.args.replica.now) (step.Ask it.peer) after c.in-Err.refusal c.in-Err.ensures
    (c.in_default.ensures it.peer)

pub returns-in-Err-ask-clause-refused : goal.returns-in-Err-ask-clause-refused
returns-in-Err-ask-clause-refused g c history after =
    let it = c.args.self.now in
    refused_after g.K.Naming.first history (meaning c.args.replica.now) (step.Ask it.peer) after c.in-Err-ask.refusal c.in-Err-ask.ensures.refused

-- what the replica answered
pub returns-in-Ok-ask-clause-answers : goal.returns-in-Ok-ask-clause-answers
returns-in-Ok-ask-clause-answers g c history after = (meaning c.args.replica.now, meaning c.ask.new.self, after, c.in-Ok-ask.ensures.ok.step)

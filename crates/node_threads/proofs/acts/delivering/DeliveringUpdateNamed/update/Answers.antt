use Rattle.replica_core.specs.Meaning.{meaning}
use Rattle.replica_core.specs.Answered.{outcome_of}
use Rattle.replica_core.specs.Stepping.{mails_of}
use Rattle.replica_model.specs.Step.{Came}
use Rattle.node_threads.specs.declared.deed.Deed.{Deed}
use Rattle.node_threads.specs.declared.deed.Deed.TheVariants.{Deliver}
use Rattle.node_threads.proofs.Stepping.{after_step, stands_on}
use Rattle.node_threads.proofs.acts.delivering.DeliveringUpdateNamed.update.Goals as goal

pub returns-clause-after : goal.returns-clause-after
returns-clause-after g c history place after =
    let it = c.args.self.now in
    let deed : Deed g.row.A.Denot = Deliver it.message.now in
    after_step g.K.Naming.first history (meaning c.args.replica.now) (meaning c.deliver.new.self) after place deed
    (Came (outcome_of c.in_ok-reply.reply.outcome)) (mails_of c.in_ok-reply.reply.replies.items) c.in_ok-reply.ensures.ok.step

pub returns-clause-root : goal.returns-clause-root
returns-clause-root g c history place after =
    let it = c.args.self.now in
    let deed : Deed g.row.A.Denot = Deliver it.message.now in
    stands_on g.K.Naming.first history (meaning c.args.replica.now) (meaning c.deliver.new.self) after place deed
    (Came (outcome_of c.in_ok-reply.reply.outcome)) (mails_of c.in_ok-reply.reply.replies.items)
    c.in_ok-reply.ensures.ok.step c.show-root.result.value c.show-root.ensures

use Rattle.replica_core.specs.Meaning.{meaning}
use Rattle.replica_core.specs.Stepping.{mail_or_none}
use Rattle.replica_model.specs.Step.{Nothing}
use Rattle.node_threads.specs.declared.deed.Deed.{Deed}
use Rattle.replica_core.specs.declared.call.Call.TheVariants as call
use Rattle.node_threads.specs.declared.deed.Deed.TheVariants as deeds
use Rattle.node_threads.proofs.Stepping.{after_step, stands_on}
use Rattle.node_threads.proofs.acts.flushing.FlushingUpdateNamed.update.Goals as goal

pub returns-clause-after : goal.returns-clause-after
returns-clause-after g c history place after =
    let it = c.args.self.now in
    let deed : Deed g.row.A.Denot = deeds.Call call.Flush in
    after_step g.K.Naming.first history (meaning c.args.replica.now) (meaning c.flush.new.self) after place deed (Nothing) (mail_or_none c.in_ok-reply.reply)
    c.in_ok-reply.ensures.ok.step

pub returns-clause-root : goal.returns-clause-root
returns-clause-root g c history place after =
    let it = c.args.self.now in
    let deed : Deed g.row.A.Denot = deeds.Call call.Flush in
    stands_on g.K.Naming.first history (meaning c.args.replica.now) (meaning c.flush.new.self) after place deed (Nothing) (mail_or_none c.in_ok-reply.reply)
    c.in_ok-reply.ensures.ok.step c.show-root.result.value c.show-root.ensures

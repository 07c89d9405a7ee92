use Rattle.std.proofs.Common.{map}
use Rattle.replica_core.specs.Meaning.{meaning}
use Rattle.replica_model.specs.Mail.{mail_of}
use Rattle.replica_model.specs.Step.{Nothing}
use Rattle.node_threads.specs.declared.deed.Deed.{Deed}
use Rattle.replica_core.specs.declared.call.Call.TheVariants as call
use Rattle.node_threads.specs.declared.deed.Deed.TheVariants as deeds
use Rattle.node_threads.proofs.Stepping.{after_step, stands_on}
use Rattle.node_threads.proofs.acts.flushing.FlushingBytesUpdateNamed.update.Goals as goal

pub returns-clause-after : goal.returns-clause-after
returns-clause-after g c history place after =
    let deed : Deed g.row.A.Denot = deeds.Call call.Flush in
    let sent = c.in_ok-reply.ensures.ok in
    after_step g.K.Naming.first history (meaning c.args.replica.now) (meaning c.flush_bytes.new.self) after place deed (Nothing)
    (map mail_of sent.messages) sent.steps.step

pub returns-clause-root : goal.returns-clause-root
returns-clause-root g c history place after =
    let deed : Deed g.row.A.Denot = deeds.Call call.Flush in
    let sent = c.in_ok-reply.ensures.ok in
    stands_on g.K.Naming.first history (meaning c.args.replica.now) (meaning c.flush_bytes.new.self) after place deed (Nothing)
    (map mail_of sent.messages) sent.steps.step c.show-root.result.value c.show-root.ensures

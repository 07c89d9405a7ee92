use Rattle.std.proofs.Common.{[]}
use Rattle.replica_core.specs.Meaning.{meaning}
use Rattle.replica_model.specs.Step.{Closed}
use Rattle.node_threads.specs.declared.deed.Deed.{Deed}
use Rattle.replica_core.specs.declared.call.Call.TheVariants as call
use Rattle.node_threads.specs.declared.deed.Deed.TheVariants as deeds
use Rattle.node_threads.proofs.Stepping.{after_step, stands_on}
use Rattle.node_threads.proofs.acts.asking.AbandoningUpdateNamed.update.Goals as goal

pub returns-clause-after : goal.returns-clause-after
returns-clause-after g c history place after =
    let it = c.args.self.now in
    let deed : Deed g.row.A.Denot = deeds.Call (call.Abandon it.number) in
    after_step g.K.Naming.first history (meaning c.args.replica.now) (meaning c.abandon-reply.new.self) after place deed (Closed c.abandon-reply.result)
    [] c.abandon-reply.ensures.step

pub returns-clause-root : goal.returns-clause-root
returns-clause-root g c history place after =
    let it = c.args.self.now in
    let deed : Deed g.row.A.Denot = deeds.Call (call.Abandon it.number) in
    stands_on g.K.Naming.first history (meaning c.args.replica.now) (meaning c.abandon-reply.new.self) after place deed (Closed c.abandon-reply.result)
    [] c.abandon-reply.ensures.step c.show-root.result.value c.show-root.ensures

-- what the replica answered
pub returns-clause-answers : goal.returns-clause-answers
returns-clause-answers g c history after = (meaning c.args.replica.now, meaning c.abandon-reply.new.self, after, c.abandon-reply.ensures.step)

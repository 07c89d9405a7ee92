use Rattle.std.proofs.Common.{length, map, take}
use Rattle.replica_core.specs.Meaning.{meaning}
use Rattle.replica_core.specs.Writing.{answer_of}
use Rattle.node_threads.specs.Batch.{made_at}
use Rattle.node_threads.proofs.Stepping.{after_all, stands_after_all}
use Rattle.node_threads.proofs.acts.batching.BatchingUpdateNamed.update.Goals as goal

pub returns-clause-after : goal.returns-clause-after
returns-clause-after g c history place after =
    let wrote = c.write_all-reply.result.wrote.items in
    after_all g.K.Naming.first history (meaning c.args.replica.now) (meaning c.write_all-reply.new.replica) after
    (made_at place (take (length wrote) c.args.self.now.writes.now)) (map answer_of wrote)
    (c.write_all-reply.ensures.runs place)

pub returns-clause-root : goal.returns-clause-root
returns-clause-root g c history place after =
    let wrote = c.write_all-reply.result.wrote.items in
    stands_after_all g.K.Naming.first history (meaning c.args.replica.now) (meaning c.write_all-reply.new.replica) after
    (made_at place (take (length wrote) c.args.self.now.writes.now)) (map answer_of wrote)
    (c.write_all-reply.ensures.runs place) c.show-root.result.value c.show-root.ensures

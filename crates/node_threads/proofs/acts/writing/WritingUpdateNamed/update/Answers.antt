use Rattle.std.proofs.Common.{[]}
use Rattle.replica_core.specs.Meaning.{meaning}
use Rattle.replica_core.specs.Writing.{answer_of, call_of}
use Rattle.node_threads.specs.Batch.{deed_of}
use Rattle.node_threads.proofs.Stepping.{after_step, foretold_after, refused_after, stands_on, without_memory_after}
use Rattle.node_threads.proofs.acts.writing.WritingUpdateNamed.update.Goals as goal

pub returns-in-Ok-write-clause-after : goal.returns-in-Ok-write-clause-after
returns-in-Ok-write-clause-after g c history place after =
    after_step g.K.Naming.first history (meaning c.args.replica.now) (meaning c.write.new.self) after place (deed_of c.args.self.now.write)
    (answer_of c.in-Ok-write.reply) [] c.in-Ok-write.ensures.ok.step

pub returns-in-Ok-write-clause-root : goal.returns-in-Ok-write-clause-root
returns-in-Ok-write-clause-root g c history place after =
    stands_on g.K.Naming.first history (meaning c.args.replica.now) (meaning c.write.new.self) after place (deed_of c.args.self.now.write)
    (answer_of c.in-Ok-write.reply) [] c.in-Ok-write.ensures.ok.step c.show-root.result.value c.show-root.ensures

pub returns-in-Some-clause-refused : goal.returns-in-Some-clause-refused
returns-in-Some-clause-refused g c history after =
    foretold_after g.K.Naming.first history (meaning c.args.replica.now) (call_of c.args.self.now.write) after c.in-Some.refusal c.in-Some.ensures

pub returns-in-Err-clause-refused : goal.returns-in-Err-clause-refused
returns-in-Err-clause-refused g c history after =
    without_memory_after g.K.Naming.first history (meaning c.args.replica.now) (call_of c.args.self.now.write) after c.in-Err.refusal c.in-Err.ensures
    c.in_default.ensures

pub returns-in-Err-write-clause-refused : goal.returns-in-Err-write-clause-refused
returns-in-Err-write-clause-refused g c history after =
    refused_after g.K.Naming.first history (meaning c.args.replica.now) (call_of c.args.self.now.write) after c.in-Err-write.refusal
    c.in-Err-write.ensures.refused

-- what the replica answered
pub returns-in-Ok-write-clause-answers : goal.returns-in-Ok-write-clause-answers
returns-in-Ok-write-clause-answers g c history after = (meaning c.args.replica.now, meaning c.write.new.self, after, c.in-Ok-write.ensures.ok.step)

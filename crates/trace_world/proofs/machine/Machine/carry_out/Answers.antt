use Rattle.std.proofs.lemmas.Result.{IfOk-weaker}
use Rattle.trace_world.proofs.Lines.{answers_nothing, answers_command}
use Rattle.trace_words.specs.Reply.{answer_of}
use Rattle.trace_world.proofs.machine.Machine.carry_out.Goals as goal

pub returns-then-is_empty-clause-answer : goal.returns-then-is_empty-clause-answer
returns-then-is_empty-clause-answer g c = answers_nothing _ c.args.line.now c.if-is_empty.ensures

pub returns-clause-answer : goal.returns-clause-answer
returns-clause-answer g c =
    IfOk-weaker c.reply_of.result _ _
    (λ reply answered. answers_command c.args.self.now c.attempt-done.new.self c.args.line.now c.attempt-done.result (answer_of reply)
    c.if-is_empty.ensures c.attempt-done.ensures answered.0 answered.1) c.reply_of.ensures.answer

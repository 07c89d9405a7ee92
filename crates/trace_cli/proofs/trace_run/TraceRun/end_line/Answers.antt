use Rattle.std.proofs.lemmas.Result.{err_from_is_err_and}
use Rattle.trace_cli.proofs.LineLemmas.{Leads-answer, Stops-told, Begins-answer}
use Rattle.trace_words.specs.Reply.{answer_of}
use Rattle.trace_cli.specs.TraceRun.{point_of}
use Rattle.trace_cli.specs.Output.{answer_text}
use Rattle.trace_cli.proofs.trace_run.TraceRun.end_line.Goals as goal

pub returns-in_err-write_reply-clause-fault : goal.returns-in_err-write_reply-clause-fault
returns-in_err-write_reply-clause-fault g c =
    let p = err_from_is_err_and c.from_residual-in_err-write_reply.result c.from_residual-in_err-write_reply.ensures.1 in
    let is = rw c.as_slice.ensures.value at c.in_ok-reply.ensures.answer in
    rw (p.1, p.2) (λ fault. let told = c.in_err-write_reply.ensures.fault fault in (
      answer_text (answer_of c.in_ok-reply.reply) c.args.self.now.number,
      told.1,
      Stops-told (point_of c.args.self.now) c.carry_out.new.self (answer_of c.in_ok-reply.reply) c.in_err-write_reply.field-0.0 c.requires.one_line is told.0,
    ))

pub returns-in_err-write_reply-clause-front : goal.returns-in_err-write_reply-clause-front
returns-in_err-write_reply-clause-front g c =
    let p = err_from_is_err_and c.from_residual-in_err-write_reply.result c.from_residual-in_err-write_reply.ensures.1 in
    let is = rw c.as_slice.ensures.value at c.in_ok-reply.ensures.answer in
    let part = c.in_err-write_reply.ensures.front in
    rw p.1 (part.0, part.1, Begins-answer (point_of c.args.self.now) c.carry_out.new.self (answer_of c.in_ok-reply.reply) part.0 c.requires.one_line is part.2)

pub returns-clause-ok : goal.returns-clause-ok
returns-clause-ok g c =
    let is = rw c.as_slice.ensures.value at c.in_ok-reply.ensures.answer in
    let led = Leads-answer (point_of c.args.self.now) c.carry_out.new.self (answer_of c.in_ok-reply.reply)
    c.requires.one_line is c.in_ok-write_reply.ensures.goes_on in (
      answer_text (answer_of c.in_ok-reply.reply) c.args.self.now.number,
      c.in_ok-write_reply.ensures.ok,
      rw c.clear.ensures.items led,
    )

use Rattle.std.proofs.Common.{Ok, Err, [], ap, arith, inr, length, ◌<◌, length-take, refl}
use Rattle.std.proofs.lemmas.Result.{on_ok_weaker, on_err_weaker, IfErr-weaker}
use Rattle.trace_cli.proofs.RunLemmas.{Ran-start, Ran-kept, Ran-answered, Ran-more, Ran-stops, Ran-begins, Ran-finishes, Ran-ends, Pieces-more, at_end}
use Rattle.trace_cli.proofs.RunLemmas.{writer_failed, never_gone_on, all_flushed, input_is_other}
use Rattle.trace_cli.proofs.TurnLemmas.{Turned-start, Turned-read, Turned-more}
use Rattle.trace_cli.proofs.StreamLemmas.{Keeps-itself, Consumes-nothing, Consumes-kept}
use Rattle.trace_cli.specs.Lines.{has_newline}
use Rattle.trace_cli.specs.TraceRun.{Point}
use Rattle.trace_cli.proofs.running.run.Goals as goal

pub returns-in_default-clause-answered : goal.returns-in_default-clause-answered
returns-in_default-clause-answered g c _ =
    Ran-answered _ _ _ _ _ _ c.calls.invariant.led c.calls.invariant.one_line c.in_default.ensures.bytes

pub returns-clause-answered : goal.returns-clause-answered
returns-clause-answered g c _ =
    Ran-answered _ _ _ _ _ _ c.calls.invariant.led c.calls.invariant.one_line (Keeps-itself _)

pub returns-then-count-eq0-clause-ok : goal.returns-then-count-eq0-clause-ok
returns-then-count-eq0-clause-ok g c =
    let nothing = rw c.if-count-eq0.true at c.in-Ok.ensures.bytes.0 in
    let room : 0 < length c.read_beside.new.piece = omega arith in
    on_ok_weaker c.finish-ended.result
    (λ then. let end = Ran-finishes _ _ _ _ _ _ _ _ c.calls.invariant.led nothing then in
    (end.0, end.1, (c.in-Ok.ensures.bytes.1 c.if-count-eq0.true room, end.2)))
    c.finish-ended.ensures.ok

pub returns-then-count-eq0-clause-fault : goal.returns-then-count-eq0-clause-fault
returns-then-count-eq0-clause-fault g c =
    let nothing = rw c.if-count-eq0.true at c.in-Ok.ensures.bytes.0 in
    let room : 0 < length c.read_beside.new.piece = omega arith in
    IfErr-weaker c.finish-ended.result _ _
    (λ refusal told is. let end = Ran-finishes _ _ _ _ _ _ _ _ c.calls.invariant.led nothing (told is) in
    let given = end.2 in
    (end.0, end.1, (given.0, given.1, given.2, given.3, at_end end.0 given.0 _ (c.in-Ok.ensures.bytes.1 c.if-count-eq0.true room) given.1)))
    c.finish-ended.ensures.fault

pub returns-then-count-eq0-clause-front : goal.returns-then-count-eq0-clause-front
returns-then-count-eq0-clause-front g c =
    let nothing = rw c.if-count-eq0.true at c.in-Ok.ensures.bytes.0 in
    on_err_weaker c.finish-ended.result (Ran-ends _ _ _ _ _ _ _ c.calls.invariant.led nothing) c.finish-ended.ensures.front

pub returns-in-Err-clause-fault : goal.returns-in-Err-clause-fault
returns-in-Err-clause-fault g c =
    λ fault. Ran-stops _ _ _ _ _ _ _ _ _ c.calls.invariant.led c.in-Ok.ensures.bytes.0 (c.in-Err.ensures.fault fault)

pub returns-in-Err-clause-front : goal.returns-in-Err-clause-front
returns-in-Err-clause-front g c =
    Ran-begins _ _ _ _ _ _ _ _ c.calls.invariant.led c.in-Ok.ensures.bytes.0 c.in-Err.ensures.front

pub calls-preserved : goal.calls-preserved
calls-preserved g c = record {
  led = Ran-more _ _ _ _ _ _ _ _ _ c.calls.invariant.led c.in-Ok.ensures.bytes.0 c.in_default-answer.ensures.ok;
  turned =
      (let room : 0 < length c.read_beside.new.piece = omega arith in
      let i = c.calls.invariant in
      Turned-more g.R.Source.gives g.W.Write.contents _ _ _ _ _ _ _ _ (Ok c.in-Ok.count) c.read_beside.new.piece i.turned i.sound.flushed i.one_line room
      c.in-Ok.ensures.gives c.in_default-answer.ensures.ok);
  one_line = c.in_default-answer.ensures.one_line;
  number = omega (arith, c.in_default-answer.ensures.number, length-take c.in-Ok.count c.read_beside.new.piece);
  calls = omega (arith, c.in-Ok.ensures.calls);
  failed = rw (c.in-Ok.ensures.failed, c.calls.invariant.failed) refl;
  not_gone_on = rw (c.in-Ok.ensures.went_on, c.calls.invariant.not_gone_on, c.calls.invariant.failed) refl;
  sound = c.in_default-answer.ensures.writer;
  pieces = Pieces-more _ _ _ _ _ _ c.calls.invariant.pieces c.in-Ok.ensures.bytes.0 (omega (arith, length-take c.in-Ok.count c.read_beside.new.piece));
}

pub calls-init : goal.calls-init
calls-init g c =
    let at_start = c.new-trace_run.ensures in
    record {
      led = Ran-start _ _ c.new-trace_run.result at_start;
      turned = Turned-start g.R.Source.gives g.W.Write.contents _ _ c.new-trace_run.result at_start;
      one_line = ap (λ (point : Point). has_newline point.line) at_start;
      number = (let first = ap (λ (point : Point). point.number) at_start in omega (arith, first));
      calls = c.requires.reader_is_new.no_calls;
      failed = c.requires.reader_is_new.no_failure;
      not_gone_on = c.requires.reader_is_new.not_gone_on;
      sound = record {
        no_failure = c.requires.writer_is_new.no_failure;
        not_gone_on = c.requires.writer_is_new.not_gone_on;
        flushed = c.requires.writer_is_new.flushed;
      };
      pieces = ([], Consumes-nothing _, omega arith);
    }

pub returns-in_default-clause-front : goal.returns-in_default-clause-front
returns-in_default-clause-front g c = Ran-kept _ _ _ _ _ _ c.calls.invariant.led c.in_default.ensures.bytes

pub returns-clause-front : goal.returns-clause-front
returns-clause-front g c = Ran-kept _ _ _ _ _ _ c.calls.invariant.led (Keeps-itself _)

pub returns-in_default-clause-pieces : goal.returns-in_default-clause-pieces
returns-in_default-clause-pieces g c =
    Pieces-more _ _ _ [] _ _ c.calls.invariant.pieces (Consumes-kept _ _ c.in_default.ensures.bytes)
    (omega (arith, c.in_default.ensures.calls, c.calls.invariant.calls))

pub returns-then-count-eq0-clause-pieces : goal.returns-then-count-eq0-clause-pieces
returns-then-count-eq0-clause-pieces g c =
    let nothing = rw c.if-count-eq0.true at c.in-Ok.ensures.bytes.0 in
    Pieces-more _ _ _ [] _ _ c.calls.invariant.pieces nothing (omega (arith, c.in-Ok.ensures.calls, c.calls.invariant.calls))

pub returns-in-Err-clause-pieces : goal.returns-in-Err-clause-pieces
returns-in-Err-clause-pieces g c =
    Pieces-more _ _ _ _ _ _ c.calls.invariant.pieces c.in-Ok.ensures.bytes.0
    (omega (arith, length-take c.in-Ok.count c.read_beside.new.piece, c.in-Ok.ensures.calls, c.calls.invariant.calls))

pub returns-clause-pieces : goal.returns-clause-pieces
returns-clause-pieces g c = Pieces-more _ _ _ [] _ _ c.calls.invariant.pieces (Consumes-nothing _) (omega (arith, c.calls.invariant.calls))

pub returns-then-count-eq0-clause-writer_failed : goal.returns-then-count-eq0-clause-writer_failed
returns-then-count-eq0-clause-writer_failed g c = writer_failed c.finish-ended.result _ c.finish-ended.ensures.writer

pub returns-then-count-eq0-clause-ended : goal.returns-then-count-eq0-clause-ended
returns-then-count-eq0-clause-ended g c = (
  rw (c.in-Ok.ensures.went_on, c.calls.invariant.not_gone_on, c.calls.invariant.failed) refl,
  never_gone_on c.finish-ended.result _ c.finish-ended.ensures.writer,
)

pub returns-then-count-eq0-clause-flushed : goal.returns-then-count-eq0-clause-flushed
returns-then-count-eq0-clause-flushed g c = all_flushed c.finish-ended.result _ c.finish-ended.ensures.writer

pub returns-in-Err-clause-writer_failed : goal.returns-in-Err-clause-writer_failed
returns-in-Err-clause-writer_failed g c =
    writer_failed {T = Unit {0}} (Err c.in-Err.refusal) _ c.in-Err.ensures.writer

pub returns-in-Err-clause-ended : goal.returns-in-Err-clause-ended
returns-in-Err-clause-ended g c = (
  rw (c.in-Ok.ensures.went_on, c.calls.invariant.not_gone_on, c.calls.invariant.failed) refl,
  never_gone_on {T = Unit {0}} (Err c.in-Err.refusal) _ c.in-Err.ensures.writer,
)

pub returns-in-Err-clause-flushed : goal.returns-in-Err-clause-flushed
returns-in-Err-clause-flushed g c = all_flushed {T = Unit {0}} (Err c.in-Err.refusal) _ c.in-Err.ensures.writer

pub returns-in_default-clause-output : goal.returns-in_default-clause-output
returns-in_default-clause-output g c is = absurd (input_is_other {T = Unit {0}} is)

pub returns-in_default-clause-reader_failed : goal.returns-in_default-clause-reader_failed
returns-in_default-clause-reader_failed g c _ = refl

-- as many reads were made as there may be
pub returns-clause-input : goal.returns-clause-input
returns-clause-input g c _ = inr (omega (arith, c.calls.invariant.calls))

pub returns-in_default-clause-in_turn : goal.returns-in_default-clause-in_turn
returns-in_default-clause-in_turn g c =
    let room : 0 < length c.read_beside.new.piece = omega arith in
    let i = c.calls.invariant in
    Turned-read g.R.Source.gives g.W.Write.contents _ _ _ _ _ _ _ c.read_beside.new.piece i.turned i.sound.flushed i.one_line room c.in_default.ensures.gives

pub returns-then-count-eq0-clause-in_turn : goal.returns-then-count-eq0-clause-in_turn
returns-then-count-eq0-clause-in_turn g c =
    let room : 0 < length c.read_beside.new.piece = omega arith in
    let i = c.calls.invariant in
    Turned-read g.R.Source.gives g.W.Write.contents _ _ _ _ _ _ (Ok c.in-Ok.count) c.read_beside.new.piece i.turned i.sound.flushed i.one_line room
    c.in-Ok.ensures.gives

pub returns-in-Err-clause-in_turn : goal.returns-in-Err-clause-in_turn
returns-in-Err-clause-in_turn g c =
    let room : 0 < length c.read_beside.new.piece = omega arith in
    let i = c.calls.invariant in
    Turned-read g.R.Source.gives g.W.Write.contents _ _ _ _ _ _ (Ok c.in-Ok.count) c.read_beside.new.piece i.turned i.sound.flushed i.one_line room
    c.in-Ok.ensures.gives

pub returns-clause-in_turn : goal.returns-clause-in_turn
returns-clause-in_turn g c = let turned = c.calls.invariant.turned in (turned.0, turned.1, turned.2)

use Rattle.std.proofs.lemmas.Result.{err_from_is_err_and}
use Rattle.std.proofs.Common.{arith}
use Rattle.trace_cli.proofs.LineLemmas.{Leads-next, Stops-next, Begins-next}
use Rattle.trace_cli.proofs.trace_run.TraceRun.feed.Goals as goal

pub returns-in_err-take-clause-fault : goal.returns-in_err-take-clause-fault
returns-in_err-take-clause-fault g c =
    let p = err_from_is_err_and c.from_residual.result c.from_residual.ensures.1 in
    rw (p.1, p.2) (λ fault. Stops-next _ _ _ _ _ c.args.piece.now c.loop-byte.byte-index _ c.loop-byte-test.true c.loop-byte.invariant.led
    (c.in_err-take.ensures.fault fault))

pub returns-in_err-take-clause-front : goal.returns-in_err-take-clause-front
returns-in_err-take-clause-front g c =
    let p = err_from_is_err_and c.from_residual.result c.from_residual.ensures.1 in
    rw p.1 (Begins-next _ _ _ _ _ c.args.piece.now c.loop-byte.byte-index c.loop-byte-test.true c.loop-byte.invariant.led c.in_err-take.ensures.front)

pub loop-byte-preserved : goal.loop-byte-preserved
loop-byte-preserved g c = record {
  led = Leads-next _ _ _ _ _ _ c.args.piece.now c.loop-byte.byte-index c.loop-byte-test.true c.loop-byte.invariant.led c.in_ok-take.ensures.ok;
  one_line = c.in_ok-take.ensures.one_line;
  number = omega (arith, c.in_ok-take.ensures.number);
  sound = c.in_ok-take.ensures.writer;
}

use Rattle.std.proofs.Math.Nat.{le_refl}
use Rattle.std.proofs.Common.{refl}
use Rattle.trace_cli.proofs.StreamLemmas.{Written-more, took_some}
use Rattle.trace_cli.proofs.flushing.write_out.Goals as goal

pub loop-rest-preserved : goal.loop-rest-preserved
loop-rest-preserved g c =
    let i = c.loop-rest.invariant in
    record {
      written = Written-more _ _ _ _ i.written.0 c.loop-rest.rest.now c.in-Ok.count _ i.written.1 i.written.2 c.in-Ok.ensures.bytes (le_refl _);
      no_failure = rw (c.in-Ok.ensures.failed, i.no_failure) (took_some c.in-Ok.count _ c.if-count-eq0.false);
      not_gone_on = rw (c.in-Ok.ensures.went_on, i.not_gone_on, i.no_failure) refl;
    }

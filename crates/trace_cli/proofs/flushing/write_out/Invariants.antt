use Rattle.std.proofs.Common.{◌≡◌, ◌++◌, length, false}
use Rattle.trace_cli.specs.Streams.{Written}
use Rattle.trace_cli.specs.Watched.{inner_of, has_failed, has_gone_on}
use Rattle.trace_cli.proofs.flushing.write_out.Given as goal

abbrev pub invariant-loop-rest : goal.invariant-loop-rest
invariant-loop-rest g l = record {
  written : Written (g.W.Write.contents (inner_of l.initial.writer)) (g.W.Write.contents (inner_of l.writer)) (λ part. l.text ≡ part ++ l.rest);
  no_failure : has_failed l.writer ≡ false;
  not_gone_on : has_gone_on l.writer ≡ false;
}

abbrev pub decreases-loop-rest : goal.decreases-loop-rest
decreases-loop-rest g l = length l.rest

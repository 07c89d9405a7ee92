use Rattle.std.proofs.Common.{◌≡◌, ◌+◌, ◌*◌, ◌≤◌, length, false}
use Rattle.trace_cli.specs.Lines.{has_newline}
use Rattle.trace_cli.specs.TraceRun.{point_of, start_point, Leads}
use Rattle.trace_cli.specs.Streams.{TakenBytes, Written}
use Rattle.trace_cli.specs.Watched.{inner_of, calls_of, has_failed, has_gone_on, IsSettled}
use Rattle.trace_cli.proofs.TurnLemmas.{Turned}
use Rattle.trace_cli.proofs.running.run.Given as goal

abbrev pub invariant-calls : goal.invariant-calls
invariant-calls g l = record {
  led : TakenBytes (g.R.Source.left (inner_of l.initial.reader)) (g.R.Source.left (inner_of l.reader)) (λ read.
      Written (g.W.Write.contents (inner_of l.initial.writer)) (g.W.Write.contents (inner_of l.writer)) (λ text.
      Leads start_point read text (point_of l.trace_run)));
  turned : Turned g.R.Source.gives g.W.Write.contents (inner_of l.initial.reader) (inner_of l.reader) (g.W.Write.contents (inner_of l.initial.writer))
      (g.W.Write.contents (inner_of l.writer)) (point_of l.trace_run);
  one_line : has_newline l.trace_run.line.items ≡ false;
  number : l.trace_run.number ≤ 256 * l.counter + 1;
  calls : calls_of l.reader ≡ l.counter;
  failed : has_failed l.reader ≡ false;
  not_gone_on : has_gone_on l.reader ≡ false;
  sound : IsSettled l.writer;
  pieces : TakenBytes (g.R.Source.left (inner_of l.initial.reader)) (g.R.Source.left (inner_of l.reader)) (λ read. length read ≤ 256 * l.counter);
}

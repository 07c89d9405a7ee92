use Rattle.std.proofs.Common.{◌≡◌, ◌+◌, ◌≤◌, false, take}
use Rattle.trace_cli.specs.TraceRun.{point_of, Leads}
use Rattle.trace_cli.specs.Lines.{has_newline}
use Rattle.trace_cli.specs.Streams.{Written}
use Rattle.trace_cli.specs.Watched.{inner_of, IsSettled}
use Rattle.trace_cli.proofs.trace_run.TraceRun.feed.Given as goal

abbrev pub invariant-loop-byte : goal.invariant-loop-byte
invariant-loop-byte g l = record {
  led : Written (g.W.Write.contents (inner_of l.initial.writer)) (g.W.Write.contents (inner_of l.writer)) (λ text.
      Leads (point_of l.initial.self) (take l.byte-index l.piece) text (point_of l.self));
  one_line : has_newline l.self.line.items ≡ false;
  number : l.self.number ≤ l.initial.self.number + l.byte-index;
  sound : IsSettled l.writer;
}

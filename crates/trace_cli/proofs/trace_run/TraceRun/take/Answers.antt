use Rattle.std.proofs.Common.{[], ◌∷◌}
use Rattle.std.proofs.lemmas.Result.{err_from_is_err_and}
use Rattle.trace_cli.proofs.StreamLemmas.{Appends-nothing}
use Rattle.trace_cli.specs.TraceRun.{point_of}
use Rattle.trace_cli.proofs.LineLemmas.{has_newline-append, not_newline, Begins-nothing}
use Rattle.trace_cli.proofs.trace_run.TraceRun.take.Goals as goal

pub returns-in_err-push-clause-front : goal.returns-in_err-push-clause-front
returns-in_err-push-clause-front g c =
    let p = err_from_is_err_and c.from_residual.result c.from_residual.ensures.1 in
    rw p.1 ([], Appends-nothing _, Begins-nothing (point_of c.args.self.now) (c.args.byte ∷ []))

pub returns-clause-one_line : goal.returns-clause-one_line
returns-clause-one_line g c =
    rw c.in_ok-push.ensures.items
    (has_newline-append c.args.self.now.line.items (c.args.byte ∷ []) c.requires.one_line (not_newline c.args.byte c.if-byte-eq10.false))

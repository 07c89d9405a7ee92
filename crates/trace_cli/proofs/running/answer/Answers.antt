use Rattle.std.proofs.Common.{ap, ◌∙◌}
use Rattle.std.proofs.lemmas.Result.{err_from_is_err_and}
use Rattle.trace_cli.proofs.LineLemmas.{Begins-held}
use Rattle.trace_cli.specs.TraceRun.{point_of}
use Rattle.trace_cli.proofs.running.answer.Goals as goal

pub returns-in_err-write_out-clause-front : goal.returns-in_err-write_out-clause-front
returns-in_err-write_out-clause-front g c =
    let p = err_from_is_err_and c.from_residual.result c.from_residual.ensures.1 in
    rw p.1
    (Begins-held c.feed-fed.result (point_of c.args.trace_run.now) (point_of c.feed-fed.new.self) c.args.piece.now _ _ _ _ _
    (ap (λ v. v.items) c.new-answers.ensures.inner ∙ c.new.ensures.items) (c.as_slice.ensures.value ∙ ap (λ v. v.items) c.into_inner-text.ensures)
    c.feed-fed.ensures.ok c.feed-fed.ensures.front c.in_err-write_out.ensures.front)

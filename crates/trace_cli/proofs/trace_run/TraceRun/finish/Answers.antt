use Rattle.std.proofs.Common.{◌≡◌, length}
use Rattle.std.proofs.lemmas.Result.{IfErr-weaker, on_err_weaker}
use Rattle.trace_words.proofs.Answering.{OnOk-both}
use Rattle.trace_cli.proofs.LineLemmas.{Leads-last, Stops-last, Begins-last, nonzero}
use Rattle.trace_cli.specs.TraceRun.{point_of}
use Rattle.trace_cli.proofs.trace_run.TraceRun.finish.Goals as goal

pub returns-clause-ok : goal.returns-clause-ok
returns-clause-ok g c =
    let some : length c.args.self.now.line.items ≡ 0 → ⊥ = nonzero _ _ c.if-is_empty.ensures c.args.self.now.line.ok.0 in
    OnOk-both c.end_line.result
    (λ led empty. (led.0, led.1, Leads-last (point_of c.args.self.now) (point_of c.end_line.new.self) led.0 c.requires.one_line some led.2 empty))
    c.end_line.ensures.ok c.end_line.ensures.line

pub returns-clause-fault : goal.returns-clause-fault
returns-clause-fault g c =
    let some : length c.args.self.now.line.items ≡ 0 → ⊥ = nonzero _ _ c.if-is_empty.ensures c.args.self.now.line.ok.0 in
    IfErr-weaker c.end_line.result _ _
    (λ refusal told is. let stop = told is in (stop.0, stop.1, Stops-last (point_of c.args.self.now) stop.0 refusal c.requires.one_line some stop.2))
    c.end_line.ensures.fault

pub returns-clause-front : goal.returns-clause-front
returns-clause-front g c =
    let some : length c.args.self.now.line.items ≡ 0 → ⊥ = nonzero _ _ c.if-is_empty.ensures c.args.self.now.line.ok.0 in
    on_err_weaker c.end_line.result
    (λ part. (part.0, part.1, Begins-last (point_of c.args.self.now) part.0 c.requires.one_line some part.2))
    c.end_line.ensures.front

pub returns-then-is_empty-clause-input : goal.returns-then-is_empty-clause-input
returns-then-is_empty-clause-input g c = tt

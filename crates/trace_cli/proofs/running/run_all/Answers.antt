use Rattle.std.proofs.lemmas.Result.{on_ok_weaker, IfErr-weaker}
use Rattle.trace_cli.proofs.RunLemmas.{Stops-written, finished_all}
use Rattle.trace_cli.proofs.running.run_all.Goals as goal

pub returns-in-Err-clause-fault : goal.returns-in-Err-clause-fault
returns-in-Err-clause-fault g c = λ fault. Stops-written _ _ c.new-trace_run.result c.args.input.now _ c.new-trace_run.ensures (c.in-Err.ensures.fault fault)

pub returns-clause-ok : goal.returns-clause-ok
returns-clause-ok g c =
    on_ok_weaker c.finish-ended.result (finished_all _ _ _ c.new-trace_run.result c.args.input.now _ _ c.new-trace_run.ensures c.in_default.ensures.ok)
    c.finish-ended.ensures.ok

pub returns-clause-fault : goal.returns-clause-fault
returns-clause-fault g c =
    IfErr-weaker c.finish-ended.result _ _
    (λ refusal told is. finished_all _ _ _ c.new-trace_run.result c.args.input.now _ _ c.new-trace_run.ensures c.in_default.ensures.ok (told is))
    c.finish-ended.ensures.fault

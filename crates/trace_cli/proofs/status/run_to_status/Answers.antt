use Rattle.std.proofs.Common.{sym, ◌∙◌}
use Rattle.trace_cli.proofs.StatusLemmas.{ok_at_0, fault_at_1, failed_at_2, told_by_2, at_most_3, err_past_0, some_fault}
use Rattle.trace_cli.proofs.status.run_to_status.Goals as goal

pub returns-clause-ran : goal.returns-clause-ran
returns-clause-ran g c is = ok_at_0 c.run-outcome.result c.run-outcome.ensures.refusal c.run-outcome.ensures.ok (sym c.status_of.ensures ∙ is)

pub returns-clause-faulted : goal.returns-clause-faulted
returns-clause-faulted g c is =
    let told = fault_at_1 c.run-outcome.result c.run-outcome.ensures.refusal c.run-outcome.ensures.fault (sym c.status_of.ensures ∙ is) in
    let read = told.1 in
    let given = read.2 in
    (read.0, read.1, (given.0, given.1, given.2, some_fault _ told.0 given.3, given.4))

pub returns-clause-failed : goal.returns-clause-failed
returns-clause-failed g c is =
    failed_at_2 c.run-outcome.result _ _ c.run-outcome.ensures.refusal c.run-outcome.ensures.input c.run-outcome.ensures.output (sym c.status_of.ensures ∙ is)

pub returns-clause-told : goal.returns-clause-told
returns-clause-told g c failed =
    c.status_of.ensures ∙ told_by_2 c.run-outcome.result _ _ c.run-outcome.ensures.reader_failed c.run-outcome.ensures.writer_failed failed

pub returns-clause-known : goal.returns-clause-known
returns-clause-known g c = rw c.status_of.ensures (at_most_3 c.run-outcome.result c.run-outcome.ensures.refusal)

pub returns-clause-front : goal.returns-clause-front
returns-clause-front g c some = err_past_0 c.run-outcome.result c.run-outcome.ensures.front (λ is. some (c.status_of.ensures ∙ is))

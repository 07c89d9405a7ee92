use Rattle.node_threads.proofs.renewing.retry.Goals as goal

pub returns-clause-retried : goal.returns-clause-retried
returns-clause-retried g c = c.in_ok-told.ensures.ok

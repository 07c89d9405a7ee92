use Rattle.replica_world.proofs.Results.{if_ok_weaker}
use Rattle.trace_world.proofs.Messages.{flushed_some}
use Rattle.trace_world.proofs.telling.flushed.Goals as goal

pub returns-clause-ok : goal.returns-clause-ok
returns-clause-ok g c =
    if_ok_weaker c.sent.result (λ text says v runs from is. flushed_some v.messages c.args.first c.args.end text.items from c.if-first-end.false is
    (says v runs from is)) c.sent.ensures.ok

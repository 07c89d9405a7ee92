use Rattle.sync_protocol.proofs.Turned.{turn_nothing}
use Rattle.sync_protocol.proofs.turning.open_with.Goals as goal

pub returns-in_default-clause-ok : goal.returns-in_default-clause-ok
returns-in_default-clause-ok g c =
    turn_nothing (g.H.PathHash.hash_of c.args.asker.now.hash) c.args.asker.now c.in_ok-next.next c.args.context.now c.args.root.now c.in_default.is
    c.in_ok-next.ensures.ok

pub returns-clause-ok : goal.returns-clause-ok
returns-clause-ok g c = c.begin.ensures.ok c.args.root.now c.in-Some.is

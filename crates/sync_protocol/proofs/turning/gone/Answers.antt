use Rattle.sync_protocol.proofs.Turned.{gone_turn}
use Rattle.sync_protocol.proofs.turning.gone.Goals as goal

pub returns-clause-ok : goal.returns-clause-ok
returns-clause-ok g c =
    gone_turn c.args.asker.now c.in_ok-next.next c.args.session c.is_of.result c.is_over.result c.is_of.ensures c.if-not-is_of.false c.is_over.ensures
    c.if-is_over.false c.in_ok-next.ensures.ok

use Rattle.std.specs.Prelude.{map}
use Rattle.wire_form.specs.Message.{message_of}
use Rattle.sync_protocol.proofs.Turned.{done_turn, sent_turn}
use Rattle.sync_protocol.proofs.turning.go_on.Goals as goal

pub returns-then-is_complete-clause-ok : goal.returns-then-is_complete-clause-ok
returns-then-is_complete-clause-ok g c =
    done_turn c.args.asker.now c.in_ok-next.next c.args.fetching c.args.context.now c.in-Ok.known c.into_built.result (map message_of c.args.asks.items)
    c.is_complete.result
    c.is_complete.ensures c.if-is_complete.true c.in_ok-next.ensures.ok c.in-Ok.ensures.equal c.into_built.ensures

pub returns-clause-ok : goal.returns-clause-ok
returns-clause-ok g c =
    sent_turn c.args.asker.now c.in_ok-next-2.next c.args.fetching c.args.context.now c.in-Ok.known (map message_of c.args.asks.items) c.is_complete.result
    c.is_complete.ensures c.if-is_complete.false c.in_ok-next-2.ensures.ok c.in-Ok.ensures.equal

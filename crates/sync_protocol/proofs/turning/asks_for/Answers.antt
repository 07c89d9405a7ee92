use Rattle.wire_form.specs.Message.{Ask, message_of}
use Rattle.sync_protocol.proofs.Turned.{one_made, all_made}
use Rattle.sync_protocol.proofs.turning.asks_for.Goals as goal

pub loop-prefix-preserved : goal.loop-prefix-preserved
loop-prefix-preserved g c =
    one_made message_of (Ask c.args.session) c.loop-prefix.asks.items c.push.new.self.items c.ask.result c.args.prefixes.now c.loop-prefix.prefix-index
    c.prefix-item.result c.loop-prefix.invariant c.loop-prefix-test.true c.prefix-item.is c.ask.ensures c.in_ok-push.ensures.items

pub returns-clause-ok : goal.returns-clause-ok
returns-clause-ok g c = all_made message_of (Ask c.args.session) c.loop-prefix.asks.items c.args.prefixes.now c.loop-prefix.prefix-index c.loop-prefix.invariant
    c.loop-prefix-test.false

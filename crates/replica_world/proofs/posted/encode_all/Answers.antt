use Rattle.replica_world.proofs.Spelt.{one_spelled, all_spelled}
use Rattle.replica_world.proofs.posted.encode_all.Goals as goal

pub loop-message-preserved : goal.loop-message-preserved
loop-message-preserved g c =
    one_spelled c.loop-message.spelled.items c.push.new.self.items c.in_ok-bytes.bytes c.args.messages.now c.loop-message.message-index c.message-item.result
    c.loop-message.invariant c.loop-message-test.true c.message-item.is
    c.in_ok-bytes.ensures.ok c.in_ok-push.ensures.items

pub returns-clause-ok : goal.returns-clause-ok
returns-clause-ok g c = all_spelled c.loop-message.spelled.items c.args.messages.now c.loop-message.message-index c.loop-message.invariant
    c.loop-message-test.false

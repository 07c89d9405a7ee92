use Rattle.replica_core.proofs.Written.{one_spelled, all_spelled}
use Rattle.replica_core.proofs.letter.Letter.of_all.Goals as goal

pub loop-message-preserved : goal.loop-message-preserved
loop-message-preserved g c =
    one_spelled c.loop-message.spelled.items c.push.new.self.items c.in_ok-letter.letter c.args.messages.now c.loop-message.message-index c.message-item.result
    c.loop-message.invariant c.loop-message-test.true c.message-item.is
    c.in_ok-letter.ensures.ok c.in_ok-push.ensures.items

pub returns-clause-ok : goal.returns-clause-ok
returns-clause-ok g c = all_spelled c.loop-message.spelled.items c.args.messages.now c.loop-message.message-index c.loop-message.invariant
    c.loop-message-test.false

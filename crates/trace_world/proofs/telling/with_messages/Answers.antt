use Rattle.std.proofs.Common.{refl, arith}
use Rattle.trace_world.proofs.Messages.{messages_more, messages_end}
use Rattle.trace_world.proofs.telling.with_messages.Goals as goal

pub loop-number-init : goal.loop-number-init
loop-number-init g c = λ v runs from is. refl

pub loop-number-preserved : goal.loop-number-preserved
loop-number-preserved g c = λ v runs from is.
    messages_more v.messages c.loop-number.number c.args.end _ _ _ (omega (arith, from, c.loop-number.auto.number)) c.loop-number-test.true is
    (c.in_ok-push_sent.ensures.ok v runs) (c.loop-number.invariant v runs from is)

pub returns-clause-ok : goal.returns-clause-ok
returns-clause-ok g c = λ v runs from is.
    messages_end v.messages c.loop-number.number c.args.end _ _ c.loop-number-test.false is (c.loop-number.invariant v runs from is)

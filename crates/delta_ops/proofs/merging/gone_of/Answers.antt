use Rattle.std.proofs.lemmas.Result.{IfOk-weaker}
use Rattle.op_model.specs.Operation.{has as is_among}
use Rattle.delta_ops.proofs.Merged.{gone_all, gone_more}
use Rattle.delta_ops.proofs.merging.gone_of.Goals as goal

pub loop-delta-preserved : goal.loop-delta-preserved
loop-delta-preserved g c =
    gone_more c.args.deltas.now c.loop-delta.delta-index c.delta-item.result c.deref.result.now (is_among c.loop-delta.dots.keys)
    (is_among c.add_gone.new.dots.keys) c.loop-delta-test.true c.delta-item.is c.deref.ensures c.in_ok-add_gone.ensures.ok c.loop-delta.invariant

pub returns-clause-ok : goal.returns-clause-ok
returns-clause-ok g c =
    IfOk-weaker c.context_of.result _ _
    (λ gone same. gone_all c.args.deltas.now c.loop-delta.delta-index (is_among c.loop-delta.dots.keys) gone c.loop-delta-test.false same
    c.loop-delta.invariant) c.context_of.ensures.ok

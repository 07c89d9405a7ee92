use Rattle.std.proofs.Common.{refl}
use Rattle.delta_ops.proofs.Stacking.{stacked_all, stacked_more, stacked_none}
use Rattle.delta_ops.proofs.joining.live_join.Goals as goal

pub loop-delta-init : goal.loop-delta-init
loop-delta-init g c = stacked_none c.args.base c.in_ok-live.live.0 c.in_ok-live.ensures.store c.in_ok-live.ensures.context

pub loop-delta-preserved : goal.loop-delta-preserved
loop-delta-preserved g c =
    stacked_more c.args.base c.args.deltas.now c.loop-delta.delta-index c.delta-item.result c.deref.result.now c.loop-delta.live.0 c.join_delta.new.self.0
    c.requires c.loop-delta-test.true c.delta-item.is c.deref.ensures c.in_ok-join_delta.ensures.ok c.loop-delta.invariant

pub returns-clause-ok : goal.returns-clause-ok
returns-clause-ok g c =
    stacked_all c.args.base c.args.deltas.now c.args.deltas.now c.loop-delta.delta-index c.loop-delta.live.0 refl c.loop-delta-test.false c.loop-delta.invariant

use Rattle.delta_ops.proofs.Merged.{merged_all, merged_more, merged_none}
use Rattle.delta_ops.proofs.merging.merged_but.Goals as goal

pub loop-delta-init : goal.loop-delta-init
loop-delta-init g c = merged_none c.args.gone.now c.new-stores.result.entries c.new-known.result c.new-stores.ensures.empty c.new-known.ensures

pub loop-delta-preserved : goal.loop-delta-preserved
loop-delta-preserved g c =
    merged_more c.args.deltas.now c.loop-delta.delta-index c.delta-item.result c.deref.result.now c.args.gone.now c.loop-delta.known c.add_delta.new.known
    c.loop-delta.stores.entries c.add_delta.new.stores.entries c.loop-delta-test.true c.delta-item.is c.deref.ensures
    (c.in_ok-add_delta.ensures.ok c.if-not-branch.false) c.loop-delta.invariant

pub returns-clause-ok : goal.returns-clause-ok
returns-clause-ok g c =
    merged_all c.pair_of.result c.args.deltas.now c.loop-delta.delta-index c.args.gone.now c.loop-delta.known c.loop-delta.stores.entries
    c.loop-delta-test.false c.requires c.loop-delta.invariant c.pair_of.ensures.ok

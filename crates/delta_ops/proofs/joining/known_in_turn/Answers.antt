use Rattle.delta_ops.proofs.Stacking.{inside_all, inside_more, inside_none, known_all, known_more}
use Rattle.delta_ops.proofs.joining.known_in_turn.Goals as goal

pub loop-delta-init : goal.loop-delta-init
loop-delta-init g c = (c.new-known.ensures, inside_none)

pub loop-delta-preserved : goal.loop-delta-preserved
loop-delta-preserved g c =
    let log = c.args.deltas.now in
    let i = c.loop-delta.delta-index in
    let x = c.delta-item.result in (
      known_more log i x c.deref.result.now c.context.result.now c.loop-delta.known c.add_context.new.known c.loop-delta-test.true c.delta-item.is
          c.deref.ensures c.context.ensures.value c.in_ok-add_context.ensures.ok c.loop-delta.invariant.0,
      inside_more log i x c.deref.result.now c.loop-delta-test.true c.delta-item.is c.deref.ensures c.context.ensures.inside c.loop-delta.invariant.1,
    )

pub returns-clause-ok : goal.returns-clause-ok
returns-clause-ok g c = known_all c.args.deltas.now c.loop-delta.delta-index c.loop-delta.known c.loop-delta-test.false c.loop-delta.invariant.0

pub returns-clause-inside : goal.returns-clause-inside
returns-clause-inside g c = inside_all c.args.deltas.now c.loop-delta.delta-index c.loop-delta-test.false c.loop-delta.invariant.1

use Rattle.causal_context.specs.Context.{has}
use Rattle.prefix_digest.proofs.UnknownValues.{unknown_next}
use Rattle.prefix_digest.proofs.values.add_values.Goals as goal

pub loop-dot-preserved : goal.loop-dot-preserved
loop-dot-preserved g c =
    unknown_next (has c.args.known.now) c.args.values.now.items c.loop-dot.values.items c.add_value.new.values.items c.entries-dot-items.result.now
    c.loop-dot.dot-index c.loop-dot-item.result
    c.loop-dot.invariant c.loop-dot-test.true c.loop-dot-item.is c.in_ok-add_value.ensures.ok

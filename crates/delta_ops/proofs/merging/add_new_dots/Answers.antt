use Rattle.std.proofs.Common.{sym, subst, take}
use Rattle.ordered_list.proofs.Places.{take_all, take_next}
use Rattle.causal_context.specs.Context.{in_cloud}
use Rattle.delta_ops.specs.Merging.{AddsNew}
use Rattle.delta_ops.proofs.Merged.{adds_more, adds_start}
use Rattle.delta_ops.proofs.merging.add_new_dots.Goals as goal

pub loop-dot-init : goal.loop-dot-init
loop-dot-init g c = adds_start c.args.gone.now c.args.known.now

pub loop-dot-preserved : goal.loop-dot-preserved
loop-dot-preserved g c =
    let dots = c.args.dots.now in
    let i = c.loop-dot.dot-index in
    subst (λ seen. AddsNew c.args.gone.now c.args.known.now c.add_new_dot.new.known (in_cloud seen))
    (sym (take_next dots i c.dot-item.result c.loop-dot-test.true c.dot-item.is))
    (adds_more c.args.gone.now c.args.known.now c.loop-dot.known c.add_new_dot.new.known (take i dots) c.dot-item.result
    (c.in_ok-add_new_dot.ensures.ok c.if-not-branch.false) c.loop-dot.invariant)

pub returns-clause-ok : goal.returns-clause-ok
returns-clause-ok g c = λ _.
    subst (λ seen. AddsNew c.args.gone.now c.args.known.now c.loop-dot.known (in_cloud seen))
    (take_all c.args.dots.now c.loop-dot.dot-index c.loop-dot-test.false) c.loop-dot.invariant

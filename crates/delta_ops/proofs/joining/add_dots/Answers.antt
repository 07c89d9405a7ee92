use Rattle.std.proofs.Common.{◌||◌, ◌++◌, ◌∷◌, [], false, take, sym, ap, ◌∙◌}
use Rattle.std.proofs.lemmas.List.{take_more}
use Rattle.causal_context.specs.Context.{has, in_cloud}
use Rattle.causal_context.proofs.Clouds.{added_more}
use Rattle.op_model.proofs.Joins.{or_comm}
use Rattle.ordered_list.proofs.Places.{take_all}
use Rattle.delta_ops.proofs.joining.add_dots.Goals as goal

pub loop-dot-init : goal.loop-dot-init
loop-dot-init g c = λ d. or_comm false (has c.args.known.now d)

pub loop-dot-preserved : goal.loop-dot-preserved
loop-dot-preserved g c = λ d.
    let dots = c.args.dots.now in
    let i = c.loop-dot.dot-index in
    added_more (take i dots) c.dot-item.result (has c.args.known.now) (has c.loop-dot.known) (has c.add.new.self) c.in_ok-add.ensures.ok c.loop-dot.invariant d
    ∙ ap (λ seen. has c.args.known.now d || in_cloud seen d)
    (sym (take_more dots i c.dot-item.result c.loop-dot-test.true ∙ ap (λ y. take i dots ++ y ∷ []) (sym c.dot-item.is)))

pub returns-clause-ok : goal.returns-clause-ok
returns-clause-ok g c = λ d. c.loop-dot.invariant d
    ∙ ap (λ seen. has c.args.known.now d || in_cloud seen d) (take_all c.args.dots.now c.loop-dot.dot-index c.loop-dot-test.false)

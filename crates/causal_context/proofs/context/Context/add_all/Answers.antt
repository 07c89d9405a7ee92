use Rattle.std.proofs.Common.{◌≡◌, ◌||◌, ◌∙◌, take, sym, ap, subst}
use Rattle.ordered_list.proofs.Places.{take_all, take_next}
use Rattle.dots.specs.Dot.{DotValue}
use Rattle.causal_context.specs.Context.{has, in_cloud}
use Rattle.causal_context.proofs.Clouds.{added_more}
use Rattle.causal_context.proofs.context.Context.add_all.Goals as goal

pub loop-dot-preserved : goal.loop-dot-preserved
loop-dot-preserved g c =
    let ds = c.items-dot-items.result.now in
    let x = c.dot-item.result in
    subst (λ seen. (d : DotValue) → has c.add.new.self d ≡ (has c.args.self.now d || in_cloud seen d))
    (sym (take_next ds c.loop-dot.dot-index x c.loop-dot-test.true c.dot-item.is))
    (added_more (take c.loop-dot.dot-index ds) x (has c.args.self.now) (has c.loop-dot.self) (has c.add.new.self) c.in_ok-add.ensures.ok c.loop-dot.invariant)

pub returns-clause-ok : goal.returns-clause-ok
returns-clause-ok g c = λ d.
    let all = take_all c.items-dot-items.result.now c.loop-dot.dot-index c.loop-dot-test.false ∙ c.items-dot-items.ensures.all in
    c.loop-dot.invariant d ∙ ap (λ ds. has c.args.self.now d || in_cloud ds d) all

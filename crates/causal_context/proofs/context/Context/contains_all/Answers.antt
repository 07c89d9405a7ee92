use Rattle.std.proofs.Common.{◌∙◌, take, refl, sym, ap, subst}
use Rattle.std.specs.Prelude.{IsTrue}
use Rattle.ordered_list.proofs.Places.{take_all, take_next}
use Rattle.dots.specs.Dot.{DotValue}
use Rattle.causal_context.specs.Context.{has, in_cloud}
use Rattle.causal_context.proofs.Clouds.{every_more, in_cloud_at}
use Rattle.causal_context.proofs.context.Context.contains_all.Goals as goal

pub loop-dot-preserved : goal.loop-dot-preserved
loop-dot-preserved g c =
    let ds = c.items-dot-items.result.now in
    let x = c.dot-item.result in
    subst (λ seen. (d : DotValue) → IsTrue (in_cloud seen d) → IsTrue (has c.args.self.now d))
    (sym (take_next ds c.loop-dot.dot-index x c.loop-dot-test.true c.dot-item.is))
    (every_more (λ d. IsTrue (has c.args.self.now d)) (take c.loop-dot.dot-index ds) x c.loop-dot.invariant (sym c.if-not-contains.ensures))

pub returns-then-not-contains : goal.returns-then-not-contains
returns-then-not-contains g c =
    let ds = c.items-dot-items.result.now in
    let x = c.dot-item.result in
    let here = in_cloud_at ds c.loop-dot.dot-index x c.loop-dot-test.true c.dot-item.is in
    (λ h. absurd (cc h), λ all. c.if-not-contains.ensures ∙ all x (ap (λ l. in_cloud l x) (sym c.items-dot-items.ensures.all) ∙ here))

pub returns : goal.returns
returns g c =
    let all = take_all c.items-dot-items.result.now c.loop-dot.dot-index c.loop-dot-test.false ∙ c.items-dot-items.ensures.all in
    (λ _ d h. c.loop-dot.invariant d (ap (λ ds. in_cloud ds d) all ∙ h), λ _. refl)

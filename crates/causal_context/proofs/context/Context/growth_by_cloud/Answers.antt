use Rattle.std.proofs.Common.{◌+◌, ◌∙◌, ◌++◌, ◌∷◌, [], take, ap, sym, subst}
use Rattle.ordered_list.proofs.Places.{take_all, take_next}
use Rattle.dots.specs.Dot.{same_dot}
use Rattle.causal_context.specs.Context.{ContextValue, has, in_cloud}
use Rattle.causal_context.specs.Canonical.{IsApart}
use Rattle.causal_context.specs.Growth.{IsGrowthAmong, both}
use Rattle.causal_context.proofs.Clouds.{in_cloud_at}
use Rattle.causal_context.proofs.Growths.{growth-both, growth-within, in_cloud-split, item_present}
use Rattle.causal_context.proofs.context.Context.growth_by_cloud.Goals as goal

pub loop-dot-preserved : goal.loop-dot-preserved
loop-dot-preserved g c =
    let ds = c.items-dot-items.result.now in
    let x = c.dot-item.result in
    let seen = take c.loop-dot.dot-index ds in
    let here = has c.args.self.now in
    let yours = has c.args.other.now in
    let cloud = ap (λ (v : ContextValue). v.cloud) c.other.view_is in
    let present = ap (λ l. in_cloud l x) (sym (c.items-dot-items.ensures.all ∙ cloud))
    ∙ in_cloud_at ds c.loop-dot.dot-index x c.loop-dot-test.true c.dot-item.is in
    let apart = subst (λ (v : ContextValue). IsApart v.vector v.cloud) c.other.view_is c.other.invariant.apart in
    subst (IsGrowthAmong here yours (in_cloud (take (c.loop-dot.dot-index + 1) ds))) (sym c.and-growth.ensures)
    (subst (λ l. IsGrowthAmong here yours (in_cloud l) (both c.loop-dot.growth c.growth_by_dot.result))
    (sym (take_next ds c.loop-dot.dot-index x c.loop-dot-test.true c.dot-item.is))
    (growth-both here yours (in_cloud seen) (same_dot x) (in_cloud (seen ++ x ∷ [])) c.loop-dot.growth c.growth_by_dot.result (in_cloud-split seen x)
    c.loop-dot.invariant
    (growth-within here (same_dot x) yours (same_dot x) c.growth_by_dot.result (item_present c.args.other.now x apart present) c.growth_by_dot.ensures)))

pub returns : goal.returns
returns g c =
    let all = take_all c.items-dot-items.result.now c.loop-dot.dot-index c.loop-dot-test.false ∙ c.items-dot-items.ensures.all
    ∙ ap (λ x. x.cloud) c.other.view_is in
    subst (λ ds. IsGrowthAmong (has c.args.self.now) (has c.args.other.now) (in_cloud ds) c.loop-dot.growth) all c.loop-dot.invariant

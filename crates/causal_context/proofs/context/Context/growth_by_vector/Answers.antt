use Rattle.std.proofs.Common.{◌+◌, ◌∙◌, ◌++◌, ◌∷◌, [], take, ap, sym, subst}
use Rattle.std.specs.Cmp.{nat_cmp_total}
use Rattle.std.specs.Ordering.{nat_cmp}
use Rattle.ordered_list.proofs.Places.{item_found, take_all, take_next}
use Rattle.causal_context.specs.Context.{ContextValue, has, is_known, known_up_to}
use Rattle.causal_context.specs.Growth.{IsGrowthAmong, is_up_to, both}
use Rattle.causal_context.proofs.Growths.{growth-both, growth-within, known-push, entry_present}
use Rattle.causal_context.proofs.Vectors.{known_from_found}
use Rattle.causal_context.proofs.context.Context.growth_by_vector.Goals as goal

pub loop-name-preserved : goal.loop-name-preserved
loop-name-preserved g c =
    let es = c.entries-name-items.result.now in
    let e = c.loop-name-item.result in
    let seen = take c.loop-name.name-index es in
    let here = has c.args.self.now in
    let yours = has c.args.other.now in
    let up_to = is_up_to e.0 e.1 in
    let found = known_from_found es e.0 e.1 (item_found nat_cmp nat_cmp_total es c.loop-name.name-index e c.entries-name-items.ensures.ordered
    c.loop-name-test.true c.loop-name-item.is) in
    let at = ap (λ l. known_up_to l e.0) (sym (ap (λ (x : ContextValue). x.vector) c.other.view_is) ∙ sym c.entries-name-items.ensures.all) ∙ found in
    subst (IsGrowthAmong here yours (is_known (take (c.loop-name.name-index + 1) es) [])) (sym c.and-growth.ensures)
    (subst (λ l. IsGrowthAmong here yours (is_known l []) (both c.loop-name.growth c.growth_by_entry.result))
    (sym (take_next es c.loop-name.name-index e c.loop-name-test.true c.loop-name-item.is))
    (growth-both here yours (is_known seen []) up_to (is_known (seen ++ e ∷ []) []) c.loop-name.growth c.growth_by_entry.result (known-push seen e)
    c.loop-name.invariant
    (growth-within here up_to yours up_to c.growth_by_entry.result (entry_present c.args.other.now e.0 e.1 at) c.growth_by_entry.ensures)))

pub returns : goal.returns
returns g c =
    let all = take_all c.entries-name-items.result.now c.loop-name.name-index c.loop-name-test.false ∙ c.entries-name-items.ensures.all
    ∙ ap (λ x. x.vector) c.other.view_is in
    subst (λ es. IsGrowthAmong (has c.args.self.now) (has c.args.other.now) (is_known es []) c.loop-name.growth) all c.loop-name.invariant

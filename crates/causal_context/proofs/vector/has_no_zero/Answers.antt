use Rattle.std.proofs.Common.{◌∙◌, refl, sym, ap, subst, Some}
use Rattle.std.specs.Cmp.{nat_cmp_total}
use Rattle.std.specs.Ordering.{nat_cmp}
use Rattle.ordered_list.specs.Places.{value_at}
use Rattle.ordered_list.proofs.Places.{item_found, take_all, take_next}
use Rattle.causal_context.specs.Canonical.{HasNoZero}
use Rattle.causal_context.proofs.Vectors.{no_zero-push}
use Rattle.causal_context.proofs.vector.has_no_zero.Goals as goal

pub returns-then-number-eq0 : goal.returns-then-number-eq0
returns-then-number-eq0 g c =
    let es = c.entries-number-items.result.now in
    let e = c.loop-number-item.result in
    let there = item_found nat_cmp nat_cmp_total es c.loop-number.number-index e c.entries-number-items.ensures.ordered c.loop-number-test.true
    c.loop-number-item.is in (
      λ h. absurd (cc h),
      λ none. absurd (none e.0 (ap (λ l. value_at nat_cmp l e.0) (sym c.entries-number-items.ensures.all) ∙ there
          ∙ ap Some c.if-number-eq0.true)),
    )

pub loop-number-preserved : goal.loop-number-preserved
loop-number-preserved g c =
    let es = c.entries-number-items.result.now in
    let e = c.loop-number-item.result in
    subst HasNoZero (sym (take_next es c.loop-number.number-index e c.loop-number-test.true c.loop-number-item.is))
    (λ q. no_zero-push _ e q (c.loop-number.invariant q) c.if-number-eq0.false)

pub returns : goal.returns
returns g c =
    let all = take_all c.entries-number-items.result.now c.loop-number.number-index c.loop-number-test.false ∙ c.entries-number-items.ensures.all in
    (λ _. subst HasNoZero all c.loop-number.invariant, λ _. refl)

use Rattle.std.proofs.Common.{◌≡◌, ◌≤◌, ◌∙◌, take, refl, sym, ap, subst, arith}
use Rattle.std.specs.Cmp.{nat_cmp_total}
use Rattle.std.specs.Ordering.{nat_cmp}
use Rattle.ordered_list.proofs.Places.{item_found, take_all, take_next}
use Rattle.causal_context.specs.Context.{known_up_to}
use Rattle.causal_context.proofs.Vectors.{known_up_to-push_le, known_from_found}
use Rattle.causal_context.proofs.vector.covers.Goals as goal

pub returns-then-number-known_up_to : goal.returns-then-number-known_up_to
returns-then-number-known_up_to g c =
    let es = c.entries-name-items.result.now in
    let e = c.loop-name-item.result in
    let there = known_from_found es e.0 e.1 (item_found nat_cmp nat_cmp_total es c.loop-name.name-index e c.entries-name-items.ensures.ordered
    c.loop-name-test.true c.loop-name-item.is) in
    let here : known_up_to c.args.other.now e.0 ≡ e.1 = ap (λ l. known_up_to l e.0) (sym c.entries-name-items.ensures.all) ∙ there in
    (λ h. absurd (cc h), λ all. let below = all e.0 in absurd (omega (arith, here)))

pub loop-name-preserved : goal.loop-name-preserved
loop-name-preserved g c = λ q.
    let es = c.entries-name-items.result.now in
    let e = c.loop-name-item.result in
    let mine = known_up_to c.args.vector.now in
    subst (λ seen. known_up_to seen q ≤ mine q) (sym (take_next es c.loop-name.name-index e c.loop-name-test.true c.loop-name-item.is))
    (known_up_to-push_le (take c.loop-name.name-index es) e q (mine q) (c.loop-name.invariant q)
    (λ (at : e.0 ≡ q). let same = ap mine at in omega (arith, same)))

pub returns : goal.returns
returns g c =
    let all = take_all c.entries-name-items.result.now c.loop-name.name-index c.loop-name-test.false ∙ c.entries-name-items.ensures.all in
    (λ _ q. subst (λ es. known_up_to es q ≤ known_up_to c.args.vector.now q) all (c.loop-name.invariant q), λ _. refl)

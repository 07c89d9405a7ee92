use Rattle.std.proofs.Common.{◌≡◌, refl, sym, ◌∙◌, subst, arith}
use Rattle.std.specs.Prelude.{IsTrue, IsSome}
use Rattle.dots.specs.Dot.{DotValue}
use Rattle.causal_context.specs.Context.{has}
use Rattle.dot_store.specs.Store.{HoldsDot}
use Rattle.dot_store.specs.Stores.{at_values}
use Rattle.dot_store.proofs.Gathered.{gathered_more, gathered_only, add_keeps, add_only, add_adds}
use Rattle.dot_store.proofs.Values.{held_from_item, item_from_held}
use Rattle.dot_store.proofs.dot_fun.DotFunDotStore.dots.Goals as goal

pub loop-dot-preserved : goal.loop-dot-preserved
unfolding at_values
loop-dot-preserved g c =
    let es = c.entries-dot-items.result.now in
    let all : es ≡ c.args.self.now = c.entries-dot-items.ensures.all ∙ c.self.view_is in
    let e = c.loop-dot-item.result in
    let mid = has c.loop-dot.dots in
    let new = has c.add.new.self in
    gathered_more (HoldsDot (at_values c.args.self.now)) (λ x d. x.0 ≡ d) (has c.new-dots.result)
    mid new es c.loop-dot.dot-index e c.loop-dot.invariant c.loop-dot-test.true c.loop-dot-item.is
    (add_keeps e.0 mid new c.in_ok-add.ensures.ok) (add_only e.0 mid new c.in_ok-add.ensures.ok) (add_adds e.0 mid new c.in_ok-add.ensures.ok)
    (λ d is. subst (λ l. HoldsDot (at_values l) d) all
    (held_from_item es c.loop-dot.dot-index e c.entries-dot-items.ensures.ordered c.loop-dot-test.true c.loop-dot-item.is d is))

pub returns-clause-only : goal.returns-clause-only
returns-clause-only g c = gathered_only _ _ _ _ _ _ c.new-dots.ensures c.loop-dot.invariant

pub returns-clause-all : goal.returns-clause-all
unfolding at_values
returns-clause-all g c = λ place d h.
    let es = c.entries-dot-items.result.now in
    let all : es ≡ c.args.self.now = c.entries-dot-items.ensures.all ∙ c.self.view_is in
    (item_from_held (λ e. (q : DotValue) → e.0 ≡ q → IsTrue (has c.loop-dot.dots q)) es
    (λ k e below. c.loop-dot.invariant.added k e (omega (arith, below, c.loop-dot-test.false))) place d
    (subst (λ l. IsSome (at_values l place d)) (sym all) h)).1 d refl

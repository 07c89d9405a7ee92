use Rattle.std.proofs.Common.{◌≡◌, refl, sym, ◌∙◌, subst, arith}
use Rattle.std.specs.Prelude.{IsTrue, IsSome}
use Rattle.causal_context.specs.Context.{has}
use Rattle.dot_store.specs.Stores.{at_values}
use Rattle.dot_store.proofs.Values.{held_from_item, item_from_held}
use Rattle.dot_store.proofs.dot_fun.DotFunDotStore.is_inside.Goals as goal

pub returns-then-not-contains : goal.returns-then-not-contains
unfolding at_values
returns-then-not-contains g c =
    let es = c.entries-dot-items.result.now in
    let all : es ≡ c.args.self.now = c.entries-dot-items.ensures.all ∙ c.self.view_is in
    let e = c.loop-dot-item.result in
    let held = held_from_item es c.loop-dot.dot-index e c.entries-dot-items.ensures.ordered c.loop-dot-test.true c.loop-dot-item.is e.0 refl in
    (λ t. absurd (cc t), λ inside. c.if-not-contains.ensures ∙ inside tt e.0 (subst (λ l. IsSome (at_values l tt e.0)) all held.1))

pub returns : goal.returns
unfolding at_values
returns g c =
    let es = c.entries-dot-items.result.now in
    let all : es ≡ c.args.self.now = c.entries-dot-items.ensures.all ∙ c.self.view_is in (
      λ _ place d h.
          (item_from_held (λ e. IsTrue (has c.args.context.now e.0)) es
          (λ k e below. c.loop-dot.invariant k e (omega (arith, below, c.loop-dot-test.false))) place d
          (subst (λ l. IsSome (at_values l place d)) (sym all) h)).1,
      λ _. refl,
    )

use Rattle.std.proofs.Common.{◌≡◌, refl, sym, ◌∙◌, subst, arith}
use Rattle.std.specs.Prelude.{IsSome, false}
use Rattle.causal_context.specs.Context.{has}
use Rattle.dot_store.specs.Stores.{at_values}
use Rattle.dot_store.proofs.Values.{held_from_item, item_from_held}
use Rattle.delta_ops.proofs.base.are_values_unknown.Goals as goal

pub returns-then-contains : goal.returns-then-contains
returns-then-contains g c =
    let es = c.entries-dot-items.result.now in
    let e = c.loop-dot-item.result in
    let held = held_from_item es c.loop-dot.dot-index e c.entries-dot-items.ensures.ordered c.loop-dot-test.true c.loop-dot-item.is e.0 refl in
    (λ t. absurd (cc t), λ all. sym (c.if-contains.ensures ∙ all tt e.0 (subst (λ l. IsSome (at_values l tt e.0)) c.entries-dot-items.ensures.rest held.1)))

pub returns : goal.returns
returns g c = (
  λ _ place d h.
      let es = c.entries-dot-items.result.now in
      (item_from_held (λ e. has c.args.context.now e.0 ≡ false) es
      (λ k e below. c.loop-dot.invariant k e (omega (arith, below, c.loop-dot-test.false))) place d
      (subst (λ l. IsSome (at_values l place d)) (sym c.entries-dot-items.ensures.rest) h)).1,
  λ _. refl,
)

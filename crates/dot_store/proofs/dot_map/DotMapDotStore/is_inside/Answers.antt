use Rattle.std.proofs.Common.{◌≡◌, sym, ap, ◌∙◌, subst, refl, arith}
use Rattle.std.specs.Prelude.{IsSome, IsTrue, is_some}
use Rattle.dots.specs.Dot.{DotValue}
use Rattle.causal_context.specs.Context.{has}
use Rattle.dot_store.specs.Stores.{at_stores}
use Rattle.std.proofs.lemmas.Bool.{false≢true}
use Rattle.ordered_list.proofs.Places.{items_more}
use Rattle.dot_store.proofs.Stores.{held_from_item, item_from_held}
use Rattle.dot_store.proofs.dot_map.DotMapDotStore.is_inside.Goals as goal

pub returns-then-not-is_inside : goal.returns-then-not-is_inside
unfolding at_stores
returns-then-not-is_inside g c =
    let at = g.S.DotStore.at in
    let cmp = g.K.Ord.cmp in
    let es = c.entries-store-items.result.now in
    let all : es ≡ c.args.self.now = c.entries-store-items.ensures.all ∙ c.self.view_is in
    let e = c.loop-store-item.result in
    let held = held_from_item at cmp g.met.K.Ord.total es c.loop-store.store-index e c.entries-store-items.ensures.ordered c.loop-store-test.true
    c.loop-store-item.is in (
      λ t. absurd (false≢true t),
      λ inside. c.if-not-is_inside.ensures.1 (λ place d h. inside (e.0, place) d
          (subst (λ l. IsSome (at_stores at cmp l (e.0, place) d)) all (ap is_some (held place d) ∙ h))),
    )

pub loop-store-preserved : goal.loop-store-preserved
unfolding at_stores
loop-store-preserved g c =
    items_more (λ e. (place : _) (d : DotValue) → IsSome (g.S.DotStore.at e.1 place d) → IsTrue (has c.args.context.now d))
    c.entries-store-items.result.now c.loop-store.store-index c.loop-store-item.result
    c.loop-store-test.true c.loop-store-item.is c.loop-store.invariant (c.if-not-is_inside.ensures.0 refl)

pub returns : goal.returns
unfolding at_stores
returns g c =
    let at = g.S.DotStore.at in
    let cmp = g.K.Ord.cmp in
    let es = c.entries-store-items.result.now in
    let all : es ≡ c.args.self.now = c.entries-store-items.ensures.all ∙ c.self.view_is in (
      λ _ place d h.
          let found = item_from_held at cmp g.met.K.Ord.total (λ e. (p : _) (q : DotValue) → IsSome (at e.1 p q) → IsTrue (has c.args.context.now q)) es
          (λ k e below. c.loop-store.invariant k e (omega (arith, below, c.loop-store-test.false))) place d
          (subst (λ l. IsSome (at_stores at cmp l place d)) (sym all) h) in
          found.1 place.1 d found.2,
      λ _. refl,
    )

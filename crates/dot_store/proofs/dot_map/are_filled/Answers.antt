use Rattle.std.proofs.Common.{refl, arith}
use Rattle.dot_store.specs.Store.{HasNothing}
use Rattle.ordered_list.proofs.Places.{items_more}
use Rattle.dot_store.proofs.Stores.{each_item, each_all, filled_all}
use Rattle.dot_store.proofs.dot_map.are_filled.Goals as goal

pub returns-then-is_empty-clause-filled : goal.returns-then-is_empty-clause-filled
returns-then-is_empty-clause-filled g c = (
  λ t. absurd (cc t),
  λ filled. absurd (each_item (λ s. HasNothing (g.S.DotStore.at s) → ⊥) c.args.stores.now c.loop-store.store-index c.loop-store-item.result filled
      c.loop-store-test.true c.loop-store-item.is (c.if-is_empty.ensures.nothing.0 refl)),
)

pub loop-store-preserved : goal.loop-store-preserved
loop-store-preserved g c =
    items_more (λ e. (HasNothing (g.S.DotStore.at e.1) → ⊥) × g.S.DotStore.canonical e.1)
    c.args.stores.now c.loop-store.store-index c.loop-store-item.result c.loop-store-test.true c.loop-store-item.is c.loop-store.invariant
    (λ h. absurd (cc (c.if-is_empty.ensures.nothing.1 h)), c.if-is_empty.ensures.canonical)

pub returns-clause-filled : goal.returns-clause-filled
returns-clause-filled g c = (
  λ _. filled_all g.S.DotStore.at c.args.stores.now (λ k e below. (c.loop-store.invariant k e (omega (arith, below, c.loop-store-test.false))).0),
  λ _. refl,
)

pub returns-clause-canonical : goal.returns-clause-canonical
returns-clause-canonical g c = λ _. each_all g.S.DotStore.canonical c.args.stores.now
    (λ k e below. (c.loop-store.invariant k e (omega (arith, below, c.loop-store-test.false))).1)

use Rattle.std.proofs.Common.{◌≡◌, None, sym, ap, ◌∙◌, subst, refl, arith}
use Rattle.dot_store.specs.Store.{HoldsDot}
use Rattle.dot_store.specs.Stores.{at_stores}
use Rattle.std.proofs.lemmas.Bool.{true≢false}
use Rattle.ordered_list.proofs.Places.{items_more}
use Rattle.dot_store.proofs.Stores.{holds_from_item, absent_from_items}
use Rattle.dot_store.proofs.dot_map.DotMapDotStore.contains.Goals as goal

pub returns-then-contains-clause-found : goal.returns-then-contains-clause-found
unfolding at_stores
returns-then-contains-clause-found g c = λ _.
    let es = c.entries-store-items.result.now in
    let all : es ≡ c.args.self.now = c.entries-store-items.ensures.all ∙ c.self.view_is in
    subst (λ l. HoldsDot (at_stores g.S.DotStore.at g.K.Ord.cmp l) c.args.dot) all
    (holds_from_item g.S.DotStore.at g.K.Ord.cmp g.met.K.Ord.total es c.loop-store.store-index c.loop-store-item.result c.entries-store-items.ensures.ordered
    c.loop-store-test.true c.loop-store-item.is c.args.dot
    (c.if-contains.ensures.found refl))

pub returns-then-contains-clause-absent : goal.returns-then-contains-clause-absent
returns-then-contains-clause-absent g c = λ answer. absurd (true≢false answer)

pub loop-store-preserved : goal.loop-store-preserved
unfolding at_stores
loop-store-preserved g c =
    items_more (λ e. (place : _) → g.S.DotStore.at e.1 place c.args.dot ≡ None)
    c.entries-store-items.result.now c.loop-store.store-index c.loop-store-item.result c.loop-store-test.true c.loop-store-item.is
    c.loop-store.invariant (c.if-contains.ensures.absent refl)

pub returns-clause-absent : goal.returns-clause-absent
unfolding at_stores
returns-clause-absent g c = λ _ place.
    let es = c.entries-store-items.result.now in
    let all : es ≡ c.args.self.now = c.entries-store-items.ensures.all ∙ c.self.view_is in
    ap (λ l. at_stores g.S.DotStore.at g.K.Ord.cmp l place c.args.dot) (sym all)
    ∙ absent_from_items g.S.DotStore.at g.K.Ord.cmp g.met.K.Ord.total es c.args.dot
    (λ k e below. c.loop-store.invariant k e (omega (arith, below, c.loop-store-test.false))) place

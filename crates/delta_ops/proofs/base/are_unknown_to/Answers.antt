use Rattle.std.proofs.Common.{◌≡◌, sym, ap, ◌∙◌, subst, refl, arith}
use Rattle.std.proofs.lemmas.Bool.{false≢true}
use Rattle.causal_join.specs.OrMap.{OrMapStoreValue, OrMapValue, or_map_at}
use Rattle.ordered_list.proofs.Places.{items_more}
use Rattle.delta_ops.specs.Unknown.{KnowsNoneOf}
use Rattle.delta_ops.proofs.base.are_unknown_to.Goals as goal

pub returns-then-not-is_store_unknown : goal.returns-then-not-is_store_unknown
returns-then-not-is_store_unknown g c =
    let x = c.delta-item.result in
    let held : c.store.result.now ≡ x.value.0 = c.store.ensures.value ∙ ap (λ (pair : OrMapValue). pair.0) c.deref.ensures in (
      λ t. absurd (false≢true t),
      λ all. c.if-not-is_store_unknown.ensures.1 (subst (λ (store : OrMapStoreValue). KnowsNoneOf c.args.context.now (or_map_at store)) (sym held)
          (subst (λ d. KnowsNoneOf c.args.context.now (or_map_at d.value.0)) (sym c.delta-item.is) (all c.loop-delta.delta-index x c.loop-delta-test.true))),
    )

pub loop-delta-preserved : goal.loop-delta-preserved
loop-delta-preserved g c =
    let x = c.delta-item.result in
    let held : c.store.result.now ≡ x.value.0 = c.store.ensures.value ∙ ap (λ (pair : OrMapValue). pair.0) c.deref.ensures in
    items_more (λ delta. KnowsNoneOf c.args.context.now (or_map_at delta.value.0)) c.args.deltas.now c.loop-delta.delta-index x c.loop-delta-test.true c.delta-item.is
    c.loop-delta.invariant (subst (λ (store : OrMapStoreValue). KnowsNoneOf c.args.context.now (or_map_at store)) held (c.if-not-is_store_unknown.ensures.0 refl))

pub returns : goal.returns
returns g c = (
  λ _ k delta below. c.loop-delta.invariant k delta (omega (arith, below, c.loop-delta-test.false)),
  λ _. refl,
)

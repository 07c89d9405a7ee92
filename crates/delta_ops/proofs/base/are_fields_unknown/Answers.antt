use Rattle.std.proofs.Common.{sym, ap, ◌∙◌, subst, refl, arith}
use Rattle.std.specs.Prelude.{IsSome, is_some}
use Rattle.std.proofs.lemmas.Bool.{false≢true}
use Rattle.dots.specs.Bytes.{bytes_cmp}
use Rattle.std.specs.Cmp.Lexicographic.{nat_list_cmp_total}
use Rattle.causal_join.specs.OrMap.{fields_at}
use Rattle.dot_store.specs.Stores.{at_stores, at_values}
use Rattle.dot_store.proofs.Stores.{held_from_item, item_from_held}
use Rattle.ordered_list.proofs.Places.{items_more}
use Rattle.delta_ops.specs.Unknown.{KnowsNoneOf}
use Rattle.delta_ops.proofs.base.are_fields_unknown.Goals as goal

pub returns-then-not-are_values_unknown : goal.returns-then-not-are_values_unknown
unfolding at_stores
returns-then-not-are_values_unknown g c =
    let es = c.entries-values-items.result.now in
    let e = c.loop-values-item.result in
    let held = held_from_item at_values bytes_cmp nat_list_cmp_total es c.loop-values.values-index e c.entries-values-items.ensures.ordered
    c.loop-values-test.true c.loop-values-item.is in (
      λ t. absurd (false≢true t),
      λ all. c.if-not-are_values_unknown.ensures.1 (λ place d h. all (e.0, place) d
          (subst (λ l. IsSome (fields_at l (e.0, place) d)) c.entries-values-items.ensures.rest (ap is_some (held place d) ∙ h))),
    )

pub loop-values-preserved : goal.loop-values-preserved
loop-values-preserved g c =
    items_more (λ e. KnowsNoneOf c.args.context.now (at_values e.1))
    c.entries-values-items.result.now c.loop-values.values-index c.loop-values-item.result
    c.loop-values-test.true c.loop-values-item.is c.loop-values.invariant (c.if-not-are_values_unknown.ensures.0 refl)

pub returns : goal.returns
unfolding at_stores
returns g c = (
  λ _ place d h.
      let es = c.entries-values-items.result.now in
      let found = item_from_held at_values bytes_cmp nat_list_cmp_total (λ e. KnowsNoneOf c.args.context.now (at_values e.1)) es
      (λ k e below. c.loop-values.invariant k e (omega (arith, below, c.loop-values-test.false))) place d
      (subst (λ l. IsSome (fields_at l place d)) (sym c.entries-values-items.ensures.rest) h) in
      found.1 place.1 d found.2,
  λ _. refl,
)

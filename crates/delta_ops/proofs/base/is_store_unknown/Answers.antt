use Rattle.std.proofs.Common.{sym, ap, ◌∙◌, subst, refl, arith}
use Rattle.std.specs.Prelude.{IsSome, is_some}
use Rattle.std.proofs.lemmas.Bool.{false≢true}
use Rattle.dots.specs.Bytes.{bytes_cmp}
use Rattle.std.specs.Cmp.Lexicographic.{nat_list_cmp_total}
use Rattle.causal_join.specs.OrMap.{fields_at, or_map_at}
use Rattle.dot_store.specs.Stores.{at_stores}
use Rattle.dot_store.proofs.Stores.{held_from_item, item_from_held}
use Rattle.ordered_list.proofs.Places.{items_more}
use Rattle.delta_ops.specs.Unknown.{KnowsNoneOf}
use Rattle.delta_ops.proofs.base.is_store_unknown.Goals as goal

pub returns-then-not-are_fields_unknown : goal.returns-then-not-are_fields_unknown
unfolding at_stores
returns-then-not-are_fields_unknown g c =
    let es = c.entries-fields-items.result.now in
    let e = c.loop-fields-item.result in
    let held = held_from_item fields_at bytes_cmp nat_list_cmp_total es c.loop-fields.fields-index e c.entries-fields-items.ensures.ordered
    c.loop-fields-test.true c.loop-fields-item.is in (
      λ t. absurd (false≢true t),
      λ all. c.if-not-are_fields_unknown.ensures.1 (λ place d h. all (e.0, place) d
          (subst (λ l. IsSome (or_map_at l (e.0, place) d)) c.entries-fields-items.ensures.rest (ap is_some (held place d) ∙ h))),
    )

pub loop-fields-preserved : goal.loop-fields-preserved
loop-fields-preserved g c =
    items_more (λ e. KnowsNoneOf c.args.context.now (fields_at e.1))
    c.entries-fields-items.result.now c.loop-fields.fields-index c.loop-fields-item.result
    c.loop-fields-test.true c.loop-fields-item.is c.loop-fields.invariant (c.if-not-are_fields_unknown.ensures.0 refl)

pub returns : goal.returns
unfolding at_stores
returns g c = (
  λ _ place d h.
      let es = c.entries-fields-items.result.now in
      let found = item_from_held fields_at bytes_cmp nat_list_cmp_total (λ e. KnowsNoneOf c.args.context.now (fields_at e.1)) es
      (λ k e below. c.loop-fields.invariant k e (omega (arith, below, c.loop-fields-test.false))) place d
      (subst (λ l. IsSome (or_map_at l place d)) (sym c.entries-fields-items.ensures.rest) h) in
      found.1 place.1 d found.2,
  λ _. refl,
)

use Rattle.std.proofs.Common.{◌≡◌, ◌∙◌, refl, sym, subst, arith}
use Rattle.std.specs.Prelude.{IsTrue}
use Rattle.std.specs.List.{filter}
use Rattle.std.specs.Ordering.{is_eq}
use Rattle.std.specs.BTreeMap.Range.{range_contains}
use Rattle.std.proofs.lemmas.Map.Lookups.{exact_bytes}
use Rattle.std.proofs.lemmas.Map.Views.{range_contains-from_IsInRange}
use Rattle.dots.specs.Bytes.{bytes_cmp}
use Rattle.trie_map.proofs.Visits.{Among}
use Rattle.live_map.specs.Index.{PlaceValue, place_cmp, names}
use Rattle.live_map.proofs.Members.{among_exact, among_filter, equal, not_so}
use Rattle.live_map.proofs.Passing.{passes_more, passes_all}
use Rattle.live_map.proofs.Places.{place_total, place_exact}
use Rattle.live_map.proofs.index.Index.names_no_other.Goals as goal

pub loop-other-preserved : goal.loop-other-preserved
loop-other-preserved g c =
    let other = c.in-Some.field-0.now.1 in
    passes_more c.into_iter-other-iterator.result c.loop-other.other-iterator c.next.new.self _ (λ (place : PlaceValue). place.1 ≡ c.args.key.now)
    (λ (place : PlaceValue). place.1 ≡ c.args.key.now) c.loop-other.invariant c.in-Some.ensures.steps
    (exact_bytes other c.args.key.now (equal (bytes_cmp other c.args.key.now) (not_so (is_eq (bytes_cmp other c.args.key.now)) c.if-ne.ensures))) (λ y done. done)

pub returns : goal.returns
unfolding names
returns g c = λ t q named.
    let dot = c.args.dot in
    let lo = c.range_of.result.0 in
    let hi = c.range_of.result.1 in
    let keys = c.self.inside.places.keys in
    let list = c.into_iter-other-iterator.result in
    let is : list ≡ filter (range_contains place_cmp lo hi) keys = c.into_iter-other-iterator.ensures.into_iter_gives ∙ c.range-other-items.ensures.between tt in
    let member = among_exact place_cmp place_exact keys (dot, q) (subst (λ places. IsTrue (names places dot q)) (sym c.self.view_is) named) in
    let in_range = range_contains-from_IsInRange place_total lo hi (dot, q) (c.range_of.ensures.covers dot q (record { name = refl; from = omega arith; to = omega (arith, c.number.ensures.value) })) in
    let there = among_filter (range_contains place_cmp lo hi) keys (dot, q) member in_range in
    passes_all list c.loop-other.other-iterator (λ (place : PlaceValue). place.1 ≡ c.args.key.now)
    c.loop-other.invariant c.in-None.ensures.steps.0 (dot, q)
    (subst (λ xs. Among xs (dot, q)) (sym is) there)

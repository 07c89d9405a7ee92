use Rattle.std.proofs.Common.{◌≡◌, ◌∙◌, sym, subst}
use Rattle.std.specs.Prelude.{IsTrue}
use Rattle.std.specs.List.{filter}
use Rattle.std.specs.BTreeMap.Range.{range_contains}
use Rattle.std.proofs.lemmas.Map.Views.{range_contains-from_IsInRange}
use Rattle.trie_map.proofs.Visits.{Among}
use Rattle.live_map.specs.Index.{PlaceValue, place_cmp, names, has_key}
use Rattle.live_map.proofs.Members.{among_exact, among_filter}
use Rattle.live_map.proofs.Passing.{passes_all}
use Rattle.live_map.proofs.Places.{place_total, place_exact}
use Rattle.live_map.proofs.index.Index.find.Goals as goal

pub returns-clause-there : goal.returns-clause-there
unfolding names
returns-clause-there g c = λ d q span named.
    let lo = c.range_of.result.0 in
    let hi = c.range_of.result.1 in
    let keys = c.self.inside.places.keys in
    let list = c.into_iter-dot-iterator.result in
    let is : list ≡ filter (range_contains place_cmp lo hi) keys = c.into_iter-dot-iterator.ensures.into_iter_gives ∙ c.range-dot-items.ensures.between tt in
    let member = among_exact place_cmp place_exact keys (d, q) (subst (λ places. IsTrue (names places d q)) (sym c.self.view_is) named) in
    let in_range = range_contains-from_IsInRange place_total lo hi (d, q) (c.range_of.ensures.covers d q span) in
    let there = among_filter (range_contains place_cmp lo hi) keys (d, q) member in_range in
    passes_all list c.loop-dot.dot-iterator (λ (place : PlaceValue). IsTrue (has_key c.loop-dot.touched place.1))
    c.loop-dot.invariant.0 c.in-None.ensures.steps.0 (d, q)
    (subst (λ xs. Among xs (d, q)) (sym is) there)

use Rattle.std.proofs.Common.{◌≡◌, sym, subst}
use Rattle.std.specs.Prelude.{IsTrue}
use Rattle.live_map.specs.Index.{PlaceValue, place_cmp, names}
use Rattle.trie_map.proofs.Visits.{Among}
use Rattle.live_map.proofs.Members.{among_exact}
use Rattle.live_map.proofs.Passing.{passes_all}
use Rattle.live_map.proofs.Places.{place_exact}
use Rattle.live_map.proofs.index.Index.copy.Goals as goal

pub returns-clause-ok : goal.returns-clause-ok
unfolding names
returns-clause-ok g c = λ d q named.
    let keys = c.self.inside.places.keys in
    let list = c.into_iter-dot-iterator.result in
    let is : list ≡ keys = c.into_iter-dot-iterator.ensures.into_iter_gives.0 in
    let member = among_exact place_cmp place_exact keys (d, q) (subst (λ places. IsTrue (names places d q)) (sym c.self.view_is) named) in
    passes_all list c.loop-dot.dot-iterator (λ (place : PlaceValue). IsTrue (names c.loop-dot.copy place.0 place.1))
    c.loop-dot.invariant c.in-None.ensures.steps.0 (d, q)
    (subst (λ xs. Among xs (d, q)) (sym is) member)

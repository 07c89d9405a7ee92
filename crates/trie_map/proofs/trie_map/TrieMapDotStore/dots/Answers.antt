use Rattle.std.proofs.Common.{ap, ◌∙◌, ⊎_elim}
use Rattle.std.specs.Prelude.{IsTrue}
use Rattle.dots.specs.Dot.{DotValue}
use Rattle.causal_context.specs.Context.{has}
use Rattle.dot_store.specs.Store.{HoldsDot}
use Rattle.dot_store.proofs.Gathered.{union_keeps, union_only, union_adds}
use Rattle.hash_path.specs.Map.{walk}
use Rattle.trie_map.proofs.Visits.{Reached, visits_none, visits_next, reached_more, reached_all}
use Rattle.trie_map.proofs.Holding.{store_of, holds_of}
use Rattle.trie_map.proofs.trie_map.TrieMapDotStore.dots.Goals as goal

pub loop-store-init : goal.loop-store-init
loop-store-init g c = (
  visits_none c.args.self.now.1 (g.H.PathHash.hash_of c.args.self.now.0) c.into_iter-store-iterator.result
      (Reached c.args.self.now.1 (λ s. (d : DotValue) → HoldsDot (g.S.DotStore.at s) d → IsTrue (has c.new-dots.result d)))
      (c.into_iter-store-iterator.ensures.into_iter_gives ∙ c.iter-store-items.ensures ∙ ap (λ p. walk (g.H.PathHash.hash_of p.0) p.1) c.self.view_is),
  λ d h. absurd (cc (h, c.new-dots.ensures d)),
)

pub loop-store-preserved : goal.loop-store-preserved
loop-store-preserved g c =
    let at = g.S.DotStore.at in
    let map = c.args.self.now in
    let Had = λ (s : g.row.S.Denot). (d : DotValue) → HoldsDot (at s) d → IsTrue (has c.loop-store.dots d) in
    let Has = λ (s : g.row.S.Denot). (d : DotValue) → HoldsDot (at s) d → IsTrue (has c.in_ok-both.both d) in
    let mid = has c.loop-store.dots in
    let more = has c.in_ok-more.more in
    let new = has c.in_ok-both.both in
    let key = c.in-Some.field-0-0.now in
    let store = c.in-Some.store.now in
    let there = visits_next map.1 c.loop-store.store-iterator c.next.new.self key store (Reached map.1 Had)
    c.loop-store.invariant.0 c.in-Some.ensures.steps in (
      reached_more map.1 Had Has c.loop-store.store-iterator c.next.new.self key store c.loop-store.invariant.0 c.in-Some.ensures.steps
          (λ s was d held. union_keeps mid more new c.in_ok-both.ensures.ok d (was d held))
          (union_adds mid more new c.in_ok-both.ensures.ok (λ d held. c.in_ok-more.ensures.all held.0 d held.1)),
      λ d h. ⊎_elim (λ was. c.loop-store.invariant.1 d was) (λ held. holds_of at map key store there d held)
          (union_only mid more new c.in_ok-both.ensures.ok c.in_ok-more.ensures.only d h),
    )

pub returns-clause-only : goal.returns-clause-only
returns-clause-only g c = c.loop-store.invariant.1

pub returns-clause-all : goal.returns-clause-all
returns-clause-all g c = λ place d h.
    let at = g.S.DotStore.at in
    let map = c.args.self.now in
    let there = store_of at map place d h in
    reached_all map.1 (λ (s : g.row.S.Denot). (e : DotValue) → HoldsDot (at s) e → IsTrue (has c.loop-store.dots e))
    c.loop-store.store-iterator c.loop-store.invariant.0 c.in-None.ensures.steps.0 place.0 there.0 there.1 d
    (place.1, there.2)

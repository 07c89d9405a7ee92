use Rattle.std.proofs.Common.{◌≡◌, None, refl, ap, ◌∙◌}
use Rattle.hash_path.specs.Map.{walk}
use Rattle.trie_map.proofs.Visits.{Reached, visits_none, visits_next, reached_more, reached_all}
use Rattle.trie_map.proofs.Holding.{holds_of, absent_of}
use Rattle.trie_map.proofs.trie_map.TrieMapDotStore.contains.Goals as goal

pub loop-store-init : goal.loop-store-init
loop-store-init g c =
    visits_none c.args.self.now.1 (g.H.PathHash.hash_of c.args.self.now.0) c.into_iter-store-iterator.result
    (Reached c.args.self.now.1 (λ s. (place : _) → g.S.DotStore.at s place c.args.dot ≡ None))
    (c.into_iter-store-iterator.ensures.into_iter_gives ∙ c.iter-store-items.ensures ∙ ap (λ p. walk (g.H.PathHash.hash_of p.0) p.1) c.self.view_is)

pub returns-then-contains-clause-found : goal.returns-then-contains-clause-found
returns-then-contains-clause-found g c = λ _.
    let map = c.args.self.now in
    let there = visits_next map.1 c.loop-store.store-iterator c.next.new.self c.in-Some.field-0-0.now c.in-Some.store.now
    (Reached map.1 (λ s. (place : _) → g.S.DotStore.at s place c.args.dot ≡ None))
    c.loop-store.invariant c.in-Some.ensures.steps in
    holds_of g.S.DotStore.at map c.in-Some.field-0-0.now c.in-Some.store.now there c.args.dot (c.if-contains.ensures.found refl)

pub loop-store-preserved : goal.loop-store-preserved
loop-store-preserved g c =
    let Absent = λ (s : g.row.S.Denot). (place : _) → g.S.DotStore.at s place c.args.dot ≡ None in
    reached_more c.args.self.now.1 Absent Absent c.loop-store.store-iterator c.next.new.self c.in-Some.field-0-0.now c.in-Some.store.now c.loop-store.invariant
    c.in-Some.ensures.steps (λ s was. was)
    (c.if-contains.ensures.absent refl)

pub returns-clause-absent : goal.returns-clause-absent
returns-clause-absent g c = λ _.
    absent_of g.S.DotStore.at c.args.self.now c.args.dot
    (reached_all c.args.self.now.1 (λ s. (place : _) → g.S.DotStore.at s place c.args.dot ≡ None)
    c.loop-store.store-iterator c.loop-store.invariant c.in-None.ensures.steps.0)

use Rattle.std.proofs.Common.{refl, ap, ◌∙◌}
use Rattle.std.specs.Prelude.{IsTrue, IsSome, is_some}
use Rattle.dots.specs.Dot.{DotValue}
use Rattle.causal_context.specs.Context.{has}
use Rattle.hash_path.specs.Map.{walk}
use Rattle.trie_map.proofs.Visits.{Reached, visits_none, visits_next, reached_more, reached_all}
use Rattle.trie_map.proofs.Holding.{held_of, store_of}
use Rattle.trie_map.proofs.trie_map.TrieMapDotStore.is_inside.Goals as goal

pub loop-store-init : goal.loop-store-init
loop-store-init g c =
    visits_none c.args.self.now.1 (g.H.PathHash.hash_of c.args.self.now.0) c.into_iter-store-iterator.result
    (Reached c.args.self.now.1 (λ s. (place : _) (d : DotValue) → IsSome (g.S.DotStore.at s place d) → IsTrue (has c.args.context.now d)))
    (c.into_iter-store-iterator.ensures.into_iter_gives ∙ c.iter-store-items.ensures ∙ ap (λ p. walk (g.H.PathHash.hash_of p.0) p.1) c.self.view_is)

pub returns-then-not-is_inside : goal.returns-then-not-is_inside
returns-then-not-is_inside g c =
    let at = g.S.DotStore.at in
    let map = c.args.self.now in
    let Inside = λ (s : g.row.S.Denot). (place : _) (d : DotValue) → IsSome (at s place d) → IsTrue (has c.args.context.now d) in
    let there = visits_next map.1 c.loop-store.store-iterator c.next.new.self c.in-Some.field-0-0.now c.in-Some.store.now (Reached map.1 Inside)
    c.loop-store.invariant c.in-Some.ensures.steps in (
      λ t. absurd (cc t),
      λ inside. c.if-not-is_inside.ensures.1 (λ place d h. inside (c.in-Some.field-0-0.now, place) d
          (ap is_some (held_of at map c.in-Some.field-0-0.now c.in-Some.store.now there place d) ∙ h)),
    )

pub loop-store-preserved : goal.loop-store-preserved
loop-store-preserved g c =
    let Inside = λ (s : g.row.S.Denot). (place : _) (d : DotValue) → IsSome (g.S.DotStore.at s place d) → IsTrue (has c.args.context.now d) in
    reached_more c.args.self.now.1 Inside Inside c.loop-store.store-iterator c.next.new.self c.in-Some.field-0-0.now c.in-Some.store.now c.loop-store.invariant
    c.in-Some.ensures.steps (λ s was. was)
    (c.if-not-is_inside.ensures.0 refl)

pub returns : goal.returns
returns g c =
    let at = g.S.DotStore.at in
    let map = c.args.self.now in
    let Inside = λ (s : g.row.S.Denot). (place : _) (d : DotValue) → IsSome (at s place d) → IsTrue (has c.args.context.now d) in (
      λ _ place d h.
          let there = store_of at map place d h in
          reached_all map.1 Inside c.loop-store.store-iterator c.loop-store.invariant c.in-None.ensures.steps.0 place.0 there.0 there.1 place.1 d there.2,
      λ _. refl,
    )

use Rattle.std.proofs.Common.{refl, sym, ap, ◌∙◌, subst}
use Rattle.std.proofs.lemmas.Bool.{false≢true}
use Rattle.hash_path.specs.Map.{walk}
use Rattle.trie_map.specs.Keyed.{NoStoreIsEmpty}
use Rattle.trie_map.proofs.Visits.{visits_none, visits_next, visits_more, visits_all}
use Rattle.trie_map.proofs.Holding.{IsHeldBy, held_by_here, not_held_by, not_held_where_none}
use Rattle.trie_map.proofs.same.is_within.Goals as goal

pub loop-key-init : goal.loop-key-init
loop-key-init g c =
    visits_none c.args.mine.now.1 (g.H.PathHash.hash_of c.frozen.result.now.hash) c.into_iter-key-iterator.result
    (IsHeldBy g.S.DotStore.at c.args.mine.now.1 c.args.yours.now.1)
    (c.into_iter-key-iterator.ensures.into_iter_gives ∙ c.iter-key-items.ensures
    ∙ ap (walk (g.H.PathHash.hash_of c.frozen.result.now.hash)) c.frozen.ensures.map)

pub returns-then-not-same : goal.returns-then-not-same
returns-then-not-same g c =
    let at = g.S.DotStore.at in
    let mine = c.args.mine.now.1 in
    let yours = c.args.yours.now.1 in
    let key = c.in-Some.key.now in
    let store = c.in-Some.store.now in
    let there = visits_next mine c.loop-key.key-iterator c.next.new.self key store (IsHeldBy at mine yours) c.loop-key.invariant c.in-Some.ensures.steps in (
      λ t. absurd (false≢true t),
      λ all. c.if-not-same.ensures.1 (not_held_by at mine yours key store c.in-Some-get.other.now there (sym c.in-Some-get.ensures.store) (all key)),
    )

pub returns-in-None-get : goal.returns-in-None-get
returns-in-None-get g c =
    let at = g.S.DotStore.at in
    let mine = c.args.mine.now.1 in
    let yours = c.args.yours.now.1 in
    let key = c.in-Some.key.now in
    let store = c.in-Some.store.now in
    let there = visits_next mine c.loop-key.key-iterator c.next.new.self key store (IsHeldBy at mine yours) c.loop-key.invariant c.in-Some.ensures.steps in (
      λ t. absurd (false≢true t),
      λ all. absurd (not_held_where_none at mine yours key store there (subst (NoStoreIsEmpty at) c.frozen.ensures.map c.frozen.ensures.filled)
          (sym c.in-None-get.ensures.store) (all key)),
    )

pub loop-key-preserved : goal.loop-key-preserved
loop-key-preserved g c =
    let at = g.S.DotStore.at in
    let mine = c.args.mine.now.1 in
    let yours = c.args.yours.now.1 in
    let key = c.in-Some.key.now in
    let store = c.in-Some.store.now in
    let there = visits_next mine c.loop-key.key-iterator c.next.new.self key store (IsHeldBy at mine yours) c.loop-key.invariant c.in-Some.ensures.steps in
    visits_more mine c.loop-key.key-iterator c.next.new.self key store (IsHeldBy at mine yours) (IsHeldBy at mine yours)
    c.loop-key.invariant c.in-Some.ensures.steps
    (held_by_here at mine yours key store c.in-Some-get.other.now there (sym c.in-Some-get.ensures.store) (c.if-not-same.ensures.0 refl)) (λ q apart was. was)

pub returns : goal.returns
returns g c = (
  λ _ key store is.
      visits_all c.args.mine.now.1 c.loop-key.key-iterator (IsHeldBy g.S.DotStore.at c.args.mine.now.1 c.args.yours.now.1)
      c.loop-key.invariant c.in-None.ensures.steps.0 key store is store is,
  λ _. refl,
)

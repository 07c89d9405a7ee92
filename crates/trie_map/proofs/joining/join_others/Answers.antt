use Rattle.std.proofs.Common.{◌≡◌, None, ap, sym, ◌∙◌, refl}
use Rattle.std.specs.Prelude.{not}
use Rattle.std.specs.FinMap as finite
use Rattle.causal_context.specs.Context.{has}
use Rattle.hash_path.specs.Map.{walk}
use Rattle.trie_map.specs.Keyed.{at_keys}
use Rattle.trie_map.specs.Joined.{IsJoinedAt}
use Rattle.trie_map.proofs.Visits.{visits_none, visits_next, visits_more, visits_all}
use Rattle.trie_map.proofs.Written.{holds_found, holds_empty, none_copied, some_copied, joined_here, joined_apart, joined_kept, either_more}
use Rattle.trie_map.proofs.joining.join_others.Goals as goal

pub loop-key-init : goal.loop-key-init
loop-key-init g c = (
  visits_none c.args.yours.now.1 (g.H.PathHash.hash_of c.frozen.result.now.hash) c.into_iter-key-iterator.result
      (IsJoinedAt g.S.DotStore.at g.S.DotStore.greater (at_keys g.S.DotStore.at c.args.mine.now) (has c.args.own.now) (at_keys g.S.DotStore.at c.args.yours.now)
      (has c.args.theirs.now) c.args.draft.now.1)
      (c.into_iter-key-iterator.ensures.into_iter_gives ∙ c.iter-key-items.ensures
      ∙ ap (walk (g.H.PathHash.hash_of c.frozen.result.now.hash)) c.frozen.ensures.map),
  c.requires,
  refl,
)

pub loop-key-preserved-in-Continue-1 : goal.loop-key-preserved-in-Continue-1
loop-key-preserved-in-Continue-1 g c =
    let at = g.S.DotStore.at in
    let greater = g.S.DotStore.greater in
    let mine = at_keys at c.args.mine.now in
    let own = has c.args.own.now in
    let yours = at_keys at c.args.yours.now in
    let theirs = has c.args.theirs.now in
    let old = c.loop-key.draft.1 in
    let new = c.join_at.new.self.1 in
    let key = c.in-Some.key.now in
    let store = c.in-Some.store.now in
    let empty = c.empty-empty.result in
    let Was = IsJoinedAt at greater mine own yours theirs old in
    let Is = IsJoinedAt at greater mine own yours theirs new in
    let there = visits_next c.args.yours.now.1 c.loop-key.key-iterator c.next.new.self key store Was c.loop-key.invariant.0 c.in-Some.ensures.steps in
    let none : finite.get c.args.mine.now.1 key ≡ None = sym c.get.ensures.store ∙ none_copied at c.get.result (c.is_none.ensures ∙ ap not c.if-is_none.true) in
    let mine_holds = holds_empty at c.args.mine.now key empty none c.empty-empty.ensures in
    let yours_holds = holds_found at c.args.yours.now key store there in
    let before = c.loop-key.invariant.1 in
    let step = c.in_ok-join_at.ensures.ok in (
      visits_more c.args.yours.now.1 c.loop-key.key-iterator c.next.new.self key store Was Is c.loop-key.invariant.0 c.in-Some.ensures.steps
          (joined_here at greater mine own yours theirs old new key empty store mine_holds yours_holds before.either step)
          (joined_apart at greater mine own yours theirs old new key empty store mine_holds yours_holds before.either step),
      record {
        either = either_more at greater mine own yours theirs old new key empty store mine_holds yours_holds before.either step;
        there = λ q s is. joined_kept at greater mine own yours theirs old new key empty store mine_holds yours_holds before.either step q
            (before.there q s is);
      },
      c.in_ok-join_at.ensures.hash ∙ c.loop-key.invariant.2,
    )

pub loop-key-preserved : goal.loop-key-preserved
loop-key-preserved g c =
    let at = g.S.DotStore.at in
    let mine = at_keys at c.args.mine.now in
    let key = c.in-Some.key.now in
    let store = c.in-Some.store.now in
    let Was = IsJoinedAt at g.S.DotStore.greater mine (has c.args.own.now) (at_keys at c.args.yours.now) (has c.args.theirs.now) c.loop-key.draft.1 in
    let there = some_copied at c.get.result (c.if-is_none.ensures) in (
      visits_more c.args.yours.now.1 c.loop-key.key-iterator c.next.new.self key store Was Was c.loop-key.invariant.0 c.in-Some.ensures.steps
          (c.loop-key.invariant.1.there key there.0 (sym c.get.ensures.store ∙ there.1)) (λ q apart was. was),
      c.loop-key.invariant.1,
      c.loop-key.invariant.2,
    )

pub returns-clause-ok : goal.returns-clause-ok
returns-clause-ok g c = (
  c.loop-key.invariant.1,
  record {
    either = c.loop-key.invariant.1.either;
    there = visits_all c.args.yours.now.1 c.loop-key.key-iterator
        (IsJoinedAt g.S.DotStore.at g.S.DotStore.greater (at_keys g.S.DotStore.at c.args.mine.now) (has c.args.own.now)
        (at_keys g.S.DotStore.at c.args.yours.now) (has c.args.theirs.now) c.loop-key.draft.1) c.loop-key.invariant.0 c.in-None.ensures.steps.0;
  },
)

use Rattle.std.proofs.Common.{◌≡◌, ap, sym, ◌∙◌, subst, refl, inl}
use Rattle.std.specs.Borrow.{Bor}
use Rattle.causal_context.specs.Context.{has}
use Rattle.hash_path.specs.Map.{walk}
use Rattle.trie_map.specs.Keyed.{at_keys}
use Rattle.trie_map.specs.Joined.{IsJoinedAt}
use Rattle.trie_map.proofs.Visits.{visits_none, visits_next, visits_more, visits_all}
use Rattle.trie_map.proofs.Written.{held_where, holds_found, holds_either, joined_here, joined_apart, either_more}
use Rattle.trie_map.proofs.joining.join_own.Goals as goal

pub loop-key-init : goal.loop-key-init
loop-key-init g c = (
  visits_none c.args.mine.now.1 (g.H.PathHash.hash_of c.frozen.result.now.hash) c.into_iter-key-iterator.result
      (IsJoinedAt g.S.DotStore.at g.S.DotStore.greater (at_keys g.S.DotStore.at c.args.mine.now) (has c.args.own.now) (at_keys g.S.DotStore.at c.args.yours.now)
      (has c.args.theirs.now) c.args.draft.now.1)
      (c.into_iter-key-iterator.ensures.into_iter_gives ∙ c.iter-key-items.ensures
      ∙ ap (walk (g.H.PathHash.hash_of c.frozen.result.now.hash)) c.frozen.ensures.map),
  λ q. inl (held_where g.S.DotStore.at c.args.draft.now c.args.mine.now q c.requires),
  refl,
)

pub loop-key-preserved : goal.loop-key-preserved
loop-key-preserved g c =
    let at = g.S.DotStore.at in
    let greater = g.S.DotStore.greater in
    let mine = at_keys at c.args.mine.now in
    let own = has c.args.own.now in
    let yours = at_keys at c.args.yours.now in
    let theirs = has c.args.theirs.now in
    let old = c.loop-key.draft.1 in
    let new = c.join_at.new.self.1 in
    let key = c.in-Some.key.now in
    let store = c.in-Some.store.now in
    let Was = IsJoinedAt at greater mine own yours theirs old in
    let Is = IsJoinedAt at greater mine own yours theirs new in
    let there = visits_next c.args.mine.now.1 c.loop-key.key-iterator c.next.new.self key store Was c.loop-key.invariant.0 c.in-Some.ensures.steps in
    let other = c.unwrap_or-other.result.now in
    let mine_holds = holds_found at c.args.mine.now key store there in
    let yours_holds : (place : _) (d : _) → yours (key, place) d ≡ at other place d =
    subst (λ (b : Bor g.row.S.Denot). (place : _) (d : _) → yours (key, place) d ≡ at b.now place d) (sym c.unwrap_or-other.ensures)
    (holds_either at c.args.yours.now key c.get.result _ c.get.ensures.store c.empty-empty.ensures) in
    let step = c.in_ok-join_at.ensures.ok in (
      visits_more c.args.mine.now.1 c.loop-key.key-iterator c.next.new.self key store Was Is c.loop-key.invariant.0 c.in-Some.ensures.steps
          (joined_here at greater mine own yours theirs old new key store other mine_holds yours_holds c.loop-key.invariant.1 step)
          (joined_apart at greater mine own yours theirs old new key store other mine_holds yours_holds c.loop-key.invariant.1 step),
      either_more at greater mine own yours theirs old new key store other mine_holds yours_holds c.loop-key.invariant.1 step,
      c.in_ok-join_at.ensures.hash ∙ c.loop-key.invariant.2,
    )

pub returns-clause-ok : goal.returns-clause-ok
returns-clause-ok g c = record {
  either = c.loop-key.invariant.1;
  there = visits_all c.args.mine.now.1 c.loop-key.key-iterator
      (IsJoinedAt g.S.DotStore.at g.S.DotStore.greater (at_keys g.S.DotStore.at c.args.mine.now) (has c.args.own.now) (at_keys g.S.DotStore.at c.args.yours.now)
      (has c.args.theirs.now) c.loop-key.draft.1) c.loop-key.invariant.0 c.in-None.ensures.steps.0;
}

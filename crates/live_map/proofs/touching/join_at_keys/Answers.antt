use Rattle.std.proofs.Common.{◌≡◌, ◌∙◌, sym, subst, refl, inl}
use Rattle.std.specs.Borrow.{Bor}
use Rattle.std.proofs.lemmas.Map.Lookups.{exact_bytes}
use Rattle.causal_context.specs.Context.{has}
use Rattle.dots.specs.Bytes.{bytes_cmp}
use Rattle.trie_map.specs.Keyed.{at_keys}
use Rattle.trie_map.specs.Joined.{IsJoinedAt}
use Rattle.trie_map.proofs.Visits.{Among}
use Rattle.trie_map.proofs.Written.{held_where, holds_either, joined_here, joined_kept, either_more}
use Rattle.live_map.proofs.Changing.{held_either}
use Rattle.live_map.proofs.Members.{among_exact}
use Rattle.live_map.proofs.Passing.{passes_none, passes_more, passes_all}
use Rattle.live_map.proofs.touching.join_at_keys.Goals as goal

pub loop-key-init : goal.loop-key-init
loop-key-init g c = (
  passes_none c.into_iter-key-iterator.result c.into_iter-key-iterator.result
      (IsJoinedAt g.S.DotStore.at g.S.DotStore.greater (at_keys g.S.DotStore.at c.args.mine.now) (has c.args.own.now)
      (g.Y.Keyed.stands c.args.yours.now) (has c.args.theirs.now) c.args.draft.now.1) refl,
  λ q. inl (held_where g.S.DotStore.at c.args.draft.now c.args.mine.now q c.requires),
  refl,
)

pub loop-key-preserved : goal.loop-key-preserved
loop-key-preserved g c =
    let at = g.S.DotStore.at in
    let greater = g.S.DotStore.greater in
    let mine = at_keys at c.args.mine.now in
    let own = has c.args.own.now in
    let yours = g.Y.Keyed.stands c.args.yours.now in
    let theirs = has c.args.theirs.now in
    let old = c.loop-key.draft.1 in
    let new = c.join_at.new.self.1 in
    let key = c.in-Some.key.now in
    let x = c.unwrap_or-store.result.now in
    let y = c.unwrap_or-other.result.now in
    let Was = IsJoinedAt at greater mine own yours theirs old in
    let Is = IsJoinedAt at greater mine own yours theirs new in
    let mine_holds : (place : _) (d : _) → mine (key, place) d ≡ at x place d =
    subst (λ (b : Bor g.row.S.Denot). (place : _) (d : _) → mine (key, place) d ≡ at b.now place d) (sym c.unwrap_or-store.ensures)
    (holds_either at c.args.mine.now key c.get.result _ c.get.ensures.store c.empty-empty.ensures) in
    let yours_holds : (place : _) (d : _) → yours (key, place) d ≡ at y place d =
    subst (λ (b : Bor g.row.S.Denot). (place : _) (d : _) → yours (key, place) d ≡ at b.now place d) (sym c.unwrap_or-other.ensures)
    (λ place d. c.store_at.ensures place d ∙ held_either at c.store_at.result _ c.empty-empty.ensures place d) in
    let step = c.in_ok-join_at.ensures.ok in (
      passes_more c.into_iter-key-iterator.result c.loop-key.key-iterator c.next.new.self key Was Is c.loop-key.invariant.0 c.in-Some.ensures.steps
          (joined_here at greater mine own yours theirs old new key x y mine_holds yours_holds c.loop-key.invariant.1 step)
          (joined_kept at greater mine own yours theirs old new key x y mine_holds yours_holds c.loop-key.invariant.1 step),
      either_more at greater mine own yours theirs old new key x y mine_holds yours_holds c.loop-key.invariant.1 step,
      c.in_ok-join_at.ensures.hash ∙ c.loop-key.invariant.2,
    )

pub returns-clause-there : goal.returns-clause-there
returns-clause-there g c = λ q h.
    passes_all c.into_iter-key-iterator.result c.loop-key.key-iterator
    (IsJoinedAt g.S.DotStore.at g.S.DotStore.greater (at_keys g.S.DotStore.at c.args.mine.now) (has c.args.own.now)
    (g.Y.Keyed.stands c.args.yours.now) (has c.args.theirs.now) c.loop-key.draft.1)
    c.loop-key.invariant.0 c.in-None.ensures.steps.0 q (subst (λ keys. Among keys q) (sym c.into_iter-key-iterator.ensures.into_iter_gives.0)
    (among_exact bytes_cmp exact_bytes c.args.keys.now.keys q h))

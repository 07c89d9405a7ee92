use Rattle.std.proofs.Common.{sym, subst}
use Rattle.causal_context.specs.Context.{has}
use Rattle.causal_join.specs.Causal.{state_of}
use Rattle.dot_store.specs.Stores.{at_stores}
use Rattle.dots.specs.Bytes.{bytes_cmp}
use Rattle.op_model.specs.State.{join, Same}
use Rattle.trie_map.specs.Keyed.{at_keys}
use Rattle.live_map.specs.Index.{IsIndexed, IsTouched}
use Rattle.live_map.proofs.Changing.{indexed_join, all_touched, ended_gone}
use Rattle.live_map.proofs.live.Live.join_one.Goals as goal

pub name_new-requires : goal.name_new-requires
name_new-requires g c = λ q place d h. c.requires.only q (c.requires.touched.held q place d h)

pub join_at_one-requires-clause-all : goal.join_at_one-requires-clause-all
join_at_one-requires-clause-all g c =
    let at = g.S.DotStore.at in
    let yours = at_stores at bytes_cmp c.args.delta.now.0 in
    let theirs = has c.args.delta.now.1 in
    all_touched (at_keys at c.self.inside.store) yours (has c.self.inside.context)
    theirs c.self.inside.index c.args.touched.now c.self.invariant.0 c.self.invariant.1
    (subst (λ live. IsTouched live.1 (has live.0.1) yours theirs c.args.touched.now) (sym c.self.view_is) c.requires.touched)

pub cut_ended-requires-clause-indexed : goal.cut_ended-requires-clause-indexed
cut_ended-requires-clause-indexed g c =
    let at = g.S.DotStore.at in
    let mine = at_keys at c.self.inside.store in
    let own = has c.self.inside.context in
    let delta = c.args.delta.now in
    let yours = at_stores at bytes_cmp delta.0 in
    let new = c.name_new.new.index in
    let had : IsIndexed mine new = λ q place d h. c.in_ok-name_new.ensures.kept d q (c.self.invariant.1 q place d h) in
    indexed_join g.S.DotStore.greater mine yours (at_keys at c.join_at_one.new.store) own (has delta.1)
    new c.in_ok-join_at_one.ensures.ok had c.in_ok-name_new.ensures.there

pub cut_ended-requires-clause-gone : goal.cut_ended-requires-clause-gone
cut_ended-requires-clause-gone g c =
    let at = g.S.DotStore.at in
    let delta = c.args.delta.now in
    ended_gone g.S.DotStore.greater (at_keys at c.self.inside.store) (at_stores at bytes_cmp delta.0) (at_keys at c.join_at_one.new.store)
    (has c.self.inside.context) (has delta.1) c.in_ok-join_at_one.ensures.ok

pub invariant_of-self-2 : goal.invariant_of-self-2
invariant_of-self-2 g c = (c.in_ok-join_at_one.ensures.inside, c.cut_ended.ensures)

pub returns-clause-ok : goal.returns-clause-ok
returns-clause-ok g c =
    let at = at_keys g.S.DotStore.at {Hash = g.row.H.Denot} in
    let theirs = state_of (at_stores g.S.DotStore.at bytes_cmp) c.args.delta.now in
    subst (λ live. Same (state_of at (c.join_at_one.new.store, c.join_at_one.new.context)) (join g.S.DotStore.greater (state_of at live.0) theirs))
    c.self.view_is
    (record { at = c.in_ok-join_at_one.ensures.ok; has = c.in_ok-join_at_one.ensures.known })

use Rattle.std.proofs.Common.{◌∙◌, ap, sym, subst}
use Rattle.std.proofs.lemmas.Result.{IfOk-weaker}
use Rattle.causal_context.specs.Context.{has}
use Rattle.causal_join.proofs.Pairs.{inside-same, inside-has, inside-join}
use Rattle.causal_join.specs.Causal.{state_of}
use Rattle.op_model.specs.State.{join, Same}
use Rattle.trie_map.specs.Keyed.{at_keys}
use Rattle.live_map.specs.Closing.{stores_of}
use Rattle.live_map.specs.Index.{IsIndexed}
use Rattle.live_map.proofs.Unchanged.{opened_only, indexed_only}
use Rattle.live_map.proofs.live.Live.prepare_opened_at.Goals as goal

-- the built store changes the own one at these keys only
pub closed-requires : goal.closed-requires
closed-requires g c =
    let at = g.S.DotStore.at in
    opened_only at g.S.DotStore.greater c.self.inside.store (stores_of c.args.base.now) (stores_of c.args.built.now)
    c.self.inside.context c.args.seen.now c.args.context.now c.args.self.now.0 c.self.inside.index
    c.args.touched.now.map c.touch_since.new.keys (ap (λ live. live.0) c.self.view_is)
    c.in_ok-touch_since.ensures.ok c.self.invariant.1 c.requires.below c.requires.rest

pub new-requires : goal.new-requires
new-requires g c =
    let at = at_keys g.S.DotStore.at {Hash = g.row.H.Denot} in
    let own = state_of at (c.self.inside.store, c.self.inside.context) in
    let theirs = state_of at (stores_of c.args.built.now, c.args.context.now) in
    let both = join g.S.DotStore.greater own theirs in
    inside-same (at c.in-Ok.store) both.at (has c.in_ok-next.next) c.in-Ok.ensures.ok
    (inside-has both.at (has c.in_ok-next.next) both.has (λ d. c.in_ok-next.ensures.ok d)
    (inside-join g.S.DotStore.greater own theirs c.self.invariant.0 c.requires.inside))

pub returns-clause-hash : goal.returns-clause-hash
returns-clause-hash g c = IfOk-weaker c.new.result _ _ (λ next is. ap (λ n. n.0.0) is ∙ c.in-Ok.ensures.hash ∙ ap (λ live. live.0.0.0) c.self.view_is)
    c.new.ensures.ok

pub returns-clause-ok : goal.returns-clause-ok
returns-clause-ok g c =
    let at = at_keys g.S.DotStore.at {Hash = g.row.H.Denot} in
    let theirs = state_of at (stores_of c.args.built.now, c.args.context.now) in
    let same = subst (λ live. Same (state_of at (c.in-Ok.store, c.in_ok-next.next)) (join g.S.DotStore.greater (state_of at live.0) theirs)) c.self.view_is
    (record { at = c.in-Ok.ensures.ok; has = λ d. c.in_ok-next.ensures.ok d }) in
    IfOk-weaker c.new.result _ _ (λ next is. subst (λ n. Same (state_of at n) (join g.S.DotStore.greater (state_of at c.args.self.now.0) theirs)) (sym is) same)
    c.new.ensures.ok

pub returns-clause-fits : goal.returns-clause-fits
returns-clause-fits g c =
    let at = g.S.DotStore.at in
    let mine = at_keys at c.self.inside.store in
    let own = has c.self.inside.context in
    let new = c.name_built.new.index in
    let had : IsIndexed mine new = λ q place d h. c.in_ok-name_built.ensures.kept d q (c.self.invariant.1 q place d h) in
    let only = opened_only at g.S.DotStore.greater c.self.inside.store (stores_of c.args.base.now) (stores_of c.args.built.now)
    c.self.inside.context c.args.seen.now c.args.context.now c.args.self.now.0 c.self.inside.index
    c.args.touched.now.map c.touch_since.new.keys (ap (λ live. live.0) c.self.view_is)
    c.in_ok-touch_since.ensures.ok c.self.invariant.1 c.requires.below c.requires.rest in
    let fits = indexed_only g.S.DotStore.greater mine (at_keys at (stores_of c.args.built.now)) (at_keys at c.in-Ok.store) own (has c.args.context.now)
    new c.touch_since.new.keys
    only c.in-Ok.ensures.ok had c.in_ok-name_built.ensures.there in
    IfOk-weaker c.new.result _ _ (λ next is. subst (λ n. IsIndexed (at_keys at n.0) new) (sym is) fits) c.new.ensures.ok

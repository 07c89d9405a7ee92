use Rattle.std.proofs.Common.{◌≡◌, ◌||◌, ◌∙◌, ap, sym, subst}
use Rattle.std.proofs.lemmas.Result.{IfOk-weaker}
use Rattle.std.specs.Prelude.{IsSome, is_some}
use Rattle.causal_context.specs.Context.{has}
use Rattle.causal_join.proofs.Pairs.{inside-same, inside-has, inside-join}
use Rattle.causal_join.specs.Causal.{state_of}
use Rattle.dot_store.specs.Stores.{at_stores}
use Rattle.dots.specs.Bytes.{bytes_cmp}
use Rattle.dots.specs.Dot.{DotValue}
use Rattle.op_model.specs.State.{join, Same}
use Rattle.trie_map.specs.Keyed.{at_keys}
use Rattle.live_map.specs.Index.{IsIndexed}
use Rattle.live_map.proofs.Changing.{indexed_join, held_named, IsIndexedNew}
use Rattle.live_map.proofs.live.Live.prepare.Goals as goal

pub new-requires : goal.new-requires
new-requires g c =
    let at = at_keys g.S.DotStore.at {Hash = g.row.H.Denot} in
    let own = state_of at (c.self.inside.store, c.self.inside.context) in
    let theirs = state_of (at_stores g.S.DotStore.at bytes_cmp) c.args.delta.now in
    let both = join g.S.DotStore.greater own theirs in
    let known : (d : DotValue) → has c.in_ok-context.context d ≡ has c.self.inside.context d || has c.args.delta.now.1 d = λ d.
    c.in_ok-context.ensures.ok d ∙ ap (λ x. has c.self.inside.context d || has x d) c.context.ensures.value in
    inside-same (at c.in-Ok.store) both.at (has c.in_ok-context.context) c.in-Ok.ensures.ok
    (inside-has both.at (has c.in_ok-context.context) both.has known (inside-join g.S.DotStore.greater own theirs c.self.invariant.0 c.context.ensures.inside))

pub returns-clause-hash : goal.returns-clause-hash
returns-clause-hash g c = IfOk-weaker c.new.result _ _ (λ next is. ap (λ n. n.0.0) is ∙ c.in-Ok.ensures.hash ∙ ap (λ live. live.0.0.0) c.self.view_is)
    c.new.ensures.ok

pub returns-clause-ok : goal.returns-clause-ok
returns-clause-ok g c =
    let at = at_keys g.S.DotStore.at {Hash = g.row.H.Denot} in
    let theirs = state_of (at_stores g.S.DotStore.at bytes_cmp) c.args.delta.now in
    let known : (d : DotValue) → has c.in_ok-context.context d ≡ has c.self.inside.context d || has c.args.delta.now.1 d = λ d.
    c.in_ok-context.ensures.ok d ∙ ap (λ x. has c.self.inside.context d || has x d) c.context.ensures.value in
    let same = subst (λ live. Same (state_of at (c.in-Ok.store, c.in_ok-context.context)) (join g.S.DotStore.greater (state_of at live.0) theirs))
    c.self.view_is
    (record { at = c.in-Ok.ensures.ok; has = known }) in
    IfOk-weaker c.new.result _ _ (λ next is. subst (λ n. Same (state_of at n) (join g.S.DotStore.greater (state_of at c.args.self.now.0) theirs)) (sym is) same)
    c.new.ensures.ok

pub returns-clause-fits : goal.returns-clause-fits
returns-clause-fits g c =
    let at = g.S.DotStore.at in
    let mine = at_keys at c.self.inside.store in
    let own = has c.self.inside.context in
    let delta = c.args.delta.now in
    let yours = at_stores at bytes_cmp delta.0 in
    let new = c.name_all.new.index in
    let had : IsIndexed mine new = λ q place d h. c.in_ok-name_all.ensures.kept d q (c.self.invariant.1 q place d h) in
    let has_yours : IsIndexedNew yours own new = λ q place d h fresh.
    let there = subst (λ stores. IsSome (at_stores at bytes_cmp stores (q, place) d)) (sym c.store.ensures.value) h in
    let found = c.entries.ensures.only q place d there in
    held_named at own c.entries.result.now new c.in_ok-name_all.ensures.there q found.0 found.1 place d
    (ap is_some (sym (c.entries.ensures.held q found.0 found.1 place d)) ∙ there) fresh in
    let fits = indexed_join g.S.DotStore.greater mine yours (at_keys at c.in-Ok.store) own (has delta.1) new c.in-Ok.ensures.ok had has_yours in
    IfOk-weaker c.new.result _ _ (λ next is. subst (λ n. IsIndexed (at_keys at n.0) new) (sym is) fits) c.new.ensures.ok

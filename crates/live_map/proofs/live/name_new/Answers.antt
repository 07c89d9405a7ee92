use Rattle.std.proofs.Common.{◌∙◌, ap, sym, subst}
use Rattle.std.proofs.lemmas.Result.{on_ok_weaker}
use Rattle.std.specs.Prelude.{IsTrue, IsSome, is_some}
use Rattle.causal_context.specs.Context.{has}
use Rattle.causal_context.specs.Growth.{IsOnlyNew}
use Rattle.dot_store.specs.Stores.{at_stores}
use Rattle.dots.specs.Bytes.{bytes_cmp}
use Rattle.live_map.specs.Index.{names}
use Rattle.live_map.proofs.Changing.{held_named}
use Rattle.live_map.proofs.OneKey.{only_new}
use Rattle.live_map.proofs.live.name_new.Goals as goal

pub returns-in-One-clause-there : goal.returns-in-One-clause-there
returns-in-One-clause-there g c =
    let at = at_stores g.S.DotStore.at bytes_cmp in
    let delta = c.args.delta.now in
    let new = c.name_dot.new.index in
    on_ok_weaker c.name_dot.result
    (λ there q place d h fresh.
    let is = c.requires q place d h in
    let same = only_new (has c.args.own.now) (has delta.1) (has delta.1) c.in-One.dot
    (subst (λ x. IsOnlyNew (has c.args.own.now) (has x) (has x) c.in-One.dot) c.context.ensures.value c.in-One.ensures) d fresh
    (c.context.ensures.inside (q, place) d h) in
    let held = subst (λ k. IsSome (at delta.0 (k, place) d)) is h in
    subst (λ k. IsTrue (names new d k)) (sym is) (subst (λ x. IsTrue (names new x c.args.key.now)) same
    (there place (subst (λ x. IsSome (at delta.0 (c.args.key.now, place) x)) (sym same) held))))
    c.name_dot.ensures.there

pub returns-in-More-clause-there : goal.returns-in-More-clause-there
returns-in-More-clause-there g c =
    let at = g.S.DotStore.at in
    on_ok_weaker c.name_all.result
    (λ all q place d h fresh.
    let there = subst (λ stores. IsSome (at_stores at bytes_cmp stores (q, place) d)) (sym c.store.ensures.value) h in
    let found = c.entries.ensures.only q place d there in
    held_named at (has c.args.own.now) c.entries.result.now c.name_all.new.index all q found.0 found.1 place d
    (ap is_some (sym (c.entries.ensures.held q found.0 found.1 place d)) ∙ there) fresh)
    c.name_all.ensures.there

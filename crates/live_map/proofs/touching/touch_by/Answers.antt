use Rattle.std.proofs.Common.{◌≡◌, ◌∙◌, ap, sym, subst}
use Rattle.std.specs.Prelude.{IsTrue, IsSome}
use Rattle.std.proofs.lemmas.List.Elements.{All-contains}
use Rattle.causal_context.specs.Context.{has, is_known}
use Rattle.dot_store.specs.Stores.{at_stores}
use Rattle.dots.specs.Bytes.{bytes_cmp}
use Rattle.dots.specs.Dot.{DotValue}
use Rattle.std.proofs.lemmas.Result.{on_ok_weaker}
use Rattle.live_map.specs.Index.{names, has_key}
use Rattle.live_map.proofs.Changing.{by_known}
use Rattle.live_map.proofs.touching.touch_by.Goals as goal

pub returns-clause-ok : goal.returns-clause-ok
returns-clause-ok g c =
    let keys = c.add_cloud.new.touched in
    let at = g.S.DotStore.at in
    let delta = c.args.delta.now in
    let vector = c.vector.result.now in
    let cloud = c.cloud.result.now in
    let same : (d : DotValue) → is_known vector cloud d ≡ has delta.1 d = λ d.
    ap (λ list. is_known vector list d) c.cloud.ensures.rest ∙ sym (c.vector.ensures.has d) ∙ ap (λ x. has x d) c.context-context.ensures.value in
    on_ok_weaker c.add_cloud.result
    (λ there. record {
      held = λ q place d h.
          let found = c.entries.ensures.only q place d (subst (λ stores. IsSome (at_stores at bytes_cmp stores (q, place) d)) (sym c.store.ensures.value) h) in
          let held = All-contains (λ (e : _ × _). IsTrue (has_key c.add_keys.new.touched e.0)) c.entries.result.now (q, found.0)
          c.in_ok-add_keys.ensures.there found.1 in
          c.add_cloud.ensures.kept q (c.in_ok-add_vector.ensures.kept q held);
      named = λ d q named mine known.
          by_known d (IsTrue (has_key keys q)) vector cloud
          (λ k e below name one up. c.add_cloud.ensures.kept q (c.in_ok-add_vector.ensures.there k e below d q name one up named))
          (λ k e below is. there k e below (subst (λ x. IsTrue (has c.args.own.now x)) is mine) q (subst (λ x. IsTrue (names c.args.index.now x q)) is named))
          (same d ∙ known);
    })
    c.add_cloud.ensures.there

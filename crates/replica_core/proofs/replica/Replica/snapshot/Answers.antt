use Rattle.std.proofs.Common.{◌≡◌, sym, ap, ◌∙◌, subst}
use Rattle.std.proofs.lemmas.Result.{IfOk-weaker}
use Rattle.delta_ops.specs.LiveMap.{live_state}
use Rattle.prefix_digest.specs.MapOf.{IsMapOf}
use Rattle.replica_core.proofs.MappedPair.{mapped}
use Rattle.replica_core.proofs.replica.Replica.snapshot.Goals as goal

pub returns-clause-map : goal.returns-clause-map
returns-clause-map g c =
    let live = c.self.inside.live.0 in
    let is = mapped live c.store.result.now c.store.ensures.value c.store.ensures.filled c.store.ensures.canonical in
    IfOk-weaker c.copy.result (λ frozen. frozen ≡ c.frozen.result.now) _
    (λ frozen copied. rw (← c.self.view_is) (subst (λ m. IsMapOf m (live_state live))
    (sym ((λ i. (copied i).map) ∙ c.frozen.ensures.map ∙ ap (λ s. s.1) c.store.ensures.value)) is))
    c.copy.ensures.ok

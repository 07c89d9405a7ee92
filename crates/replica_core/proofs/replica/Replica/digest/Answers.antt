use Rattle.std.proofs.Common.{◌∙◌, ap}
use Rattle.prefix_digest.specs.Page.{digest_at}
use Rattle.replica_core.proofs.MappedPair.{mapped}
use Rattle.replica_core.proofs.replica.Replica.digest.Goals as goal

pub returns : goal.returns
returns g c =
    let hash = c.frozen.ensures.hash ∙ ap (λ s. s.0) c.store.ensures.value in
    let map = c.frozen.ensures.map ∙ ap (λ s. s.1) c.store.ensures.value in
    rw (← c.self.view_is) (
      c.self.inside.live.0.0.1,
      mapped c.self.inside.live.0 c.store.result.now c.store.ensures.value c.store.ensures.filled c.store.ensures.canonical,
      c.digest.ensures.value ∙ (λ i. digest_at (g.H.PathHash.hash_of (hash i)) (map i) (c.root.ensures i)),
    )

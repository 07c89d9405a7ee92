use Rattle.std.proofs.Common.{[], ◌∙◌, ap}
use Rattle.prefix_digest.specs.Page.{digest_at}
use Rattle.replica_world.proofs.world.World.digest_at.Goals as goal

pub returns-clause-ok : goal.returns-clause-ok
returns-clause-ok g c =
    let found = c.in_ok-replica.ensures.ok in (
      found.0,
      λ clean. c.digest.ensures.2 ∙ ap (λ hash. digest_at (g.H.PathHash.hash_of hash) c.digest.ensures.0 []) found.1
          ∙ (found.2 clean).digest c.digest.ensures.0 c.digest.ensures.1,
    )

use Rattle.std.proofs.Common.{◌≡◌, ◌∙◌}
use Rattle.op_model.specs.Shown.{size}
use Rattle.replica_core.specs.Meaning.{meaning}
use Rattle.replica_world.specs.Keeping.{account_of}
use Rattle.replica_world.proofs.Read.{shown_as}
use Rattle.replica_world.proofs.world.World.size_at.Goals as goal

pub returns-clause-ok : goal.returns-clause-ok
returns-clause-ok g c =
    shown_as (g.H.PathHash.hash_of c.args.self.now.hash) (account_of c.args.self.now) c.args.name
    (meaning c.in_ok-replica.replica.now).live c.in_ok-replica.ensures.ok (λ S. c.size.result ≡ size S)
    (λ S shows. c.size.ensures.2 ∙ shows.size c.size.ensures.0 c.size.ensures.1)

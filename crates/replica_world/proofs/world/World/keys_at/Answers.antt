use Rattle.op_model.specs.Meaning.{HoldsKey}
use Rattle.op_model.specs.Shown.{keys}
use Rattle.replica_core.specs.Meaning.{meaning}
use Rattle.replica_world.specs.Keeping.{account_of}
use Rattle.replica_world.proofs.Read.{list_shown}
use Rattle.replica_world.proofs.world.World.keys_at.Goals as goal

pub returns-clause-ok : goal.returns-clause-ok
returns-clause-ok g c =
    let live = (meaning c.in_ok-at.field-0.now).live in
    list_shown (g.H.PathHash.hash_of c.args.self.now.hash) (account_of c.args.self.now) c.args.name live c.in_ok-at.ensures.ok (λ found. found.items) c.keys.result
    (HoldsKey live) (λ S. keys S) (λ S shows. shows.keys) c.keys.ensures.ok

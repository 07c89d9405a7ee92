use Rattle.op_model.specs.Meaning.{HoldsField}
use Rattle.op_model.specs.Shown.{fields}
use Rattle.replica_core.specs.Meaning.{meaning}
use Rattle.replica_world.specs.Keeping.{account_of}
use Rattle.replica_world.proofs.Read.{list_shown}
use Rattle.replica_world.proofs.world.World.fields_at.Goals as goal

pub returns-clause-ok : goal.returns-clause-ok
returns-clause-ok g c =
    let live = (meaning c.in_ok-at.field-0.now).live in
    list_shown (g.H.PathHash.hash_of c.args.self.now.hash) (account_of c.args.self.now) c.args.name live c.in_ok-at.ensures.ok (λ found. found.items)
    c.fields.result (HoldsField live c.args.key.now) (λ S. fields S c.args.key.now) (λ S shows. shows.fields c.args.key.now) c.fields.ensures.ok

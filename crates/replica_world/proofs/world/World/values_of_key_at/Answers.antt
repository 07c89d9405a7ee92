use Rattle.op_model.specs.Meaning.{StandsWithin}
use Rattle.op_model.specs.Shown.{values_of_key}
use Rattle.replica_core.specs.Meaning.{meaning}
use Rattle.replica_world.specs.Keeping.{account_of}
use Rattle.replica_world.proofs.Read.{list_shown}
use Rattle.replica_world.proofs.world.World.values_of_key_at.Goals as goal

pub returns-clause-ok : goal.returns-clause-ok
returns-clause-ok g c =
    let live = (meaning c.in_ok-at.field-0.now).live in
    list_shown (g.H.PathHash.hash_of c.args.self.now.hash) (account_of c.args.self.now) c.args.name live c.in_ok-at.ensures.ok (λ found. found.items)
    c.values_of_key.result (StandsWithin live c.args.key.now) (λ S. values_of_key S c.args.key.now) (λ S shows. shows.values_of_key c.args.key.now)
    c.values_of_key.ensures.ok

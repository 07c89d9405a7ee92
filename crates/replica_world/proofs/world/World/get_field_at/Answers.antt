use Rattle.op_model.specs.Meaning.{Stands}
use Rattle.op_model.specs.Place.{place_of}
use Rattle.op_model.specs.Shown.{values}
use Rattle.replica_core.specs.Meaning.{meaning}
use Rattle.replica_world.specs.Keeping.{account_of}
use Rattle.replica_world.proofs.Read.{list_shown}
use Rattle.replica_world.proofs.world.World.get_field_at.Goals as goal

pub returns-clause-ok : goal.returns-clause-ok
returns-clause-ok g c =
    let live = (meaning c.in_ok-at.field-0.now).live in
    list_shown (g.H.PathHash.hash_of c.args.self.now.hash) (account_of c.args.self.now) c.args.name live c.in_ok-at.ensures.ok (λ found. found.items)
    c.get_field.result (Stands live (place_of c.args.key.now c.args.field.now)) (λ S. values S (place_of c.args.key.now c.args.field.now))
    (λ S shows. shows.values (place_of c.args.key.now c.args.field.now)) c.get_field.ensures.ok

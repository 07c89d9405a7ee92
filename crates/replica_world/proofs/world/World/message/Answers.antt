use Rattle.std.specs.Prelude.{map}
use Rattle.replica_world.specs.Held.{happened_in, held_in}
use Rattle.replica_world.specs.Kept.{accepted_value, saves_in}
use Rattle.replica_world.proofs.Happened.{message_shown, message_missing, message_meant}
use Rattle.replica_world.proofs.world.World.message.Goals as goal

pub returns-clause-bytes : goal.returns-clause-bytes
returns-clause-bytes g c = rw (← c.self.view_is) c.get.ensures

pub returns-clause-some : goal.returns-clause-some
returns-clause-some g c =
    rw (← c.self.view_is) (message_shown g.H.PathHash.hash_of c.self.inside.hash c.self.inside.replicas c.self.inside.posted
    (happened_in (held_in (saves_in c.self.inside.kept) (map accepted_value c.self.inside.past.items)))
    c.self.invariant.0 c.args.number c.get.result c.get.ensures)

pub returns-clause-none : goal.returns-clause-none
returns-clause-none g c none =
    rw (← c.self.view_is) (message_missing g.H.PathHash.hash_of c.self.inside.hash c.self.inside.replicas c.self.inside.posted
    (happened_in (held_in (saves_in c.self.inside.kept) (map accepted_value c.self.inside.past.items)))
    c.self.invariant.0 c.args.number c.get.result c.get.ensures none)

pub returns-clause-carries : goal.returns-clause-carries
returns-clause-carries g c =
    rw (← c.self.view_is) (message_meant g.H.PathHash.hash_of c.self.inside.hash c.self.inside.replicas c.self.inside.posted
    (happened_in (held_in (saves_in c.self.inside.kept) (map accepted_value c.self.inside.past.items)))
    c.self.invariant.0 c.args.number c.get.result c.get.ensures)

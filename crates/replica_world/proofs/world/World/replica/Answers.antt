use Rattle.std.specs.Prelude.{map}
use Rattle.replica_world.specs.Held.{happened_in, held_in}
use Rattle.replica_world.specs.Kept.{accepted_value, saves_in}
use Rattle.replica_world.proofs.Happened.{replica_shown, replica_missing, replica_holds, replica_meant}
use Rattle.replica_world.proofs.world.World.replica.Goals as goal

pub returns-clause-some : goal.returns-clause-some
returns-clause-some g c =
    rw (← c.self.view_is) (replica_shown g.H.PathHash.hash_of c.self.inside.hash c.self.inside.replicas c.self.inside.posted
    (happened_in (held_in (saves_in c.self.inside.kept) (map accepted_value c.self.inside.past.items)))
    c.self.invariant.0 c.args.name c.get.result c.get.ensures.value)

pub returns-clause-none : goal.returns-clause-none
returns-clause-none g c none =
    rw (← c.self.view_is) (replica_missing g.H.PathHash.hash_of c.self.inside.hash c.self.inside.replicas c.self.inside.posted
    (happened_in (held_in (saves_in c.self.inside.kept) (map accepted_value c.self.inside.past.items)))
    c.self.invariant.0 c.args.name c.get.result c.get.ensures.value none)

pub returns-clause-shown : goal.returns-clause-shown
returns-clause-shown g c =
    rw (← c.self.view_is) (replica_holds g.H.PathHash.hash_of c.self.inside.hash c.self.inside.replicas c.self.inside.posted
    (happened_in (held_in (saves_in c.self.inside.kept) (map accepted_value c.self.inside.past.items)))
    c.self.invariant.0 c.args.name c.get.result c.get.ensures.value)

pub returns-clause-holds : goal.returns-clause-holds
returns-clause-holds g c =
    rw (← c.self.view_is) (replica_meant g.H.PathHash.hash_of c.self.inside.hash c.self.inside.replicas c.self.inside.posted
    (happened_in (held_in (saves_in c.self.inside.kept) (map accepted_value c.self.inside.past.items)))
    c.self.invariant.0 c.args.name c.get.result c.get.ensures.value)

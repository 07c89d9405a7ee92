use Rattle.std.proofs.Common.{Some, None, refl}
use Rattle.std.specs.Prelude.{map}
use Rattle.replica_world.specs.Held.{happened_in, held_in}
use Rattle.replica_world.specs.Keeping.{account_of}
use Rattle.replica_world.specs.Kept.{accepted_value, saves_in}
use Rattle.replica_world.proofs.Happened.{replica_told, replica_unknown}
use Rattle.replica_world.proofs.world.World.at.Goals as goal

pub returns-in-Some-clause-ok : goal.returns-in-Some-clause-ok
unfolding account_of
returns-in-Some-clause-ok g c =
    let s = c.self.inside in
    rw (← c.self.view_is) (replica_told g.H.PathHash.hash_of s.hash s.replicas s.posted
    (happened_in (held_in (saves_in s.kept) (map accepted_value s.past.items))) c.self.invariant.0 c.args.name (Some c.in-Some.replica) c.in-Some.ensures.value)

pub returns-in-None-clause-refused : goal.returns-in-None-clause-refused
unfolding account_of
returns-in-None-clause-refused g c =
    let s = c.self.inside in
    rw (← c.self.view_is) (
      refl,
      replica_unknown g.H.PathHash.hash_of s.hash s.replicas s.posted
          (happened_in (held_in (saves_in s.kept) (map accepted_value s.past.items))) c.self.invariant.0 c.args.name None c.in-None.ensures.value refl,
    )

use Rattle.std.proofs.Common.{ap, sym, ◌∙◌}
use Rattle.std.specs.Prelude.{map}
use Rattle.replica_world.specs.Happening.{happened_value}
use Rattle.replica_world.specs.Held.{happened_in, held_in}
use Rattle.replica_world.specs.Keeping.{account_of}
use Rattle.replica_world.specs.Kept.{accepted_value, saves_in}
use Rattle.replica_world.proofs.Happened.{account_any, runs_so}
use Rattle.replica_world.proofs.Living.{seen_happened}
use Rattle.replica_world.proofs.world.World.past.Goals as goal

-- the whole list
pub returns-clause-list : goal.returns-clause-list
returns-clause-list g c = rw (← c.self.view_is) (ap (map happened_value) c.as_slice.ensures.value
    ∙ sym (seen_happened (saves_in c.self.inside.kept) c.self.inside.past.items))

pub returns-clause-runs : goal.returns-clause-runs
returns-clause-runs g c =
    let s = c.self.inside in
    rw (← c.self.view_is) (
      c.self.invariant.0.world,
      runs_so g.H.PathHash.hash_of s.hash s.replicas s.posted (happened_in (held_in (saves_in s.kept) (map accepted_value s.past.items))) c.self.invariant.0,
    )

pub returns-clause-account : goal.returns-clause-account
unfolding account_of
returns-clause-account g c =
    let s = c.self.inside in
    rw (← c.self.view_is)
    (account_any g.H.PathHash.hash_of s.hash s.replicas s.posted (happened_in (held_in (saves_in s.kept) (map accepted_value s.past.items)))
    c.self.invariant.0)

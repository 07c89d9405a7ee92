use Rattle.std.specs.Prelude.{map}
use Rattle.replica_world.specs.Held.{happened_in, held_in}
use Rattle.replica_world.specs.Kept.{accepted_value, saves_in}
use Rattle.replica_world.proofs.Happened.{mail_carries, runs_so}
use Rattle.replica_world.proofs.world.World.read.Goals as goal

pub returns-in-Ok-clause-some : goal.returns-in-Ok-clause-some
returns-in-Ok-clause-some g c = λ w runs.
    let m = c.in-Some.ensures.some w runs in
    (m.0, m.1, c.in-Ok.ensures m.0.mail m.2)

pub returns-in-Err-clause-refused : goal.returns-in-Err-clause-refused
returns-in-Err-clause-refused g c =
    let shown = rw (← c.self.view_is) at c.in-Some.ensures.some in
    let s = c.self.inside in
    let runs = runs_so g.H.PathHash.hash_of s.hash s.replicas s.posted (happened_in (held_in (saves_in s.kept) (map accepted_value s.past.items)))
    c.self.invariant.0 in
    let m = shown c.self.invariant.0.world runs in
    c.in-Err.ensures m.0.mail m.2

pub returns-in-Ok-clause-carries : goal.returns-in-Ok-clause-carries
returns-in-Ok-clause-carries g c = λ w runs unclashed.
    let m = c.in-Some.ensures.some w runs in
    mail_carries _ w.messages c.args.number _ (m.0, m.1, c.in-Ok.ensures m.0.mail m.2) (c.in-Some.ensures.carries w runs unclashed)

-- there is no message of this number
pub returns-in_default-clause-none : goal.returns-in_default-clause-none
returns-in_default-clause-none g c none = c.in_default.ensures.none none

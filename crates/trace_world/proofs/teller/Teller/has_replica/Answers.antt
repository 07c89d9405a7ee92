use Rattle.std.proofs.Common.{refl}
use Rattle.trace_world.proofs.teller.Teller.has_replica.Goals as goal

pub returns-in-Some-clause-there : goal.returns-in-Some-clause-there
returns-in-Some-clause-there g c _ = rw (← c.self.view_is) (λ w runs. (c.in-Some.ensures.some w runs).0)

pub returns-in-None-clause-absent : goal.returns-in-None-clause-absent
returns-in-None-clause-absent g c _ = rw (← c.self.view_is) (c.in-None.ensures.none refl)

use Rattle.std.proofs.Common.{inr, refl}
use Rattle.delta_ops.specs.LiveMap.{store_state}
use Rattle.replica_core.specs.Meaning.{meaning}
use Rattle.trace_world.proofs.Commands.{store_holds}
use Rattle.trace_world.proofs.teller.Teller.store.Goals as goal

pub returns-in-Some-clause-ok : goal.returns-in-Some-clause-ok
returns-in-Some-clause-ok g c =
    rw (← c.self.view_is) (store_holds (λ store. (store_state store).at) c.args.name c.self.inside.world.held (meaning c.in-Some.replica.now) c.share.result
    (λ w runs. let is = c.in-Some.ensures.some w runs in (is.0, is.1)) c.share.ensures.ok)

pub returns-in-None-clause-refused : goal.returns-in-None-clause-refused
returns-in-None-clause-refused g c = rw (← c.self.view_is) (inr (refl, c.in-None.ensures.none refl))

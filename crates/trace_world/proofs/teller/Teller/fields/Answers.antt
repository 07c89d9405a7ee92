use Rattle.std.proofs.Common.{refl}
use Rattle.op_model.specs.Meaning.{MapState}
use Rattle.trace_world.specs.Outcome.{CommandOutcome, with_bytes, ReadsFields}
use Rattle.replica_core.specs.Meaning.{meaning}
use Rattle.replica_model.specs.World.{World}
use Rattle.trace_world.proofs.Commands.{does_read, does_absent}
use Rattle.trace_world.proofs.teller.Teller.fields.Goals as goal

pub returns-in-Some : goal.returns-in-Some
returns-in-Some g c =
    let P : MapState → CommandOutcome → Type 0 = λ live. with_bytes c.args.key.now (ReadsFields c.args.key.now live) in
    rw (← c.self.view_is)
    (does_read P c.args.name c.self.inside.world.held (meaning c.in-Some.replica.now) c.read_fields.result
    (λ w runs. let is = c.in-Some.ensures.some w runs in (is.0, is.1)) c.read_fields.ensures)

pub returns-in-None : goal.returns-in-None
returns-in-None g c =
    let P : World → CommandOutcome → Type 0 = λ w. with_bytes c.args.key.now (ReadsFields c.args.key.now (w.replica c.args.name).live) in
    rw (← c.self.view_is) (does_absent P c.args.name c.self.inside.world.held (c.in-None.ensures.none refl))

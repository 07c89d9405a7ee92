use Rattle.std.proofs.Common.{refl}
use Rattle.replica_core.specs.Meaning.{meaning}
use Rattle.trace_world.specs.Outcome.{ReadsContext}
use Rattle.trace_world.proofs.Commands.{does_read, does_absent}
use Rattle.trace_world.proofs.teller.Teller.context.Goals as goal

pub returns-in-Some : goal.returns-in-Some
returns-in-Some g c =
    rw (← c.self.view_is)
    (does_read (ReadsContext) c.args.name c.self.inside.world.held (meaning c.in-Some.replica.now) c.read_context.result
    (λ w runs. let is = c.in-Some.ensures.some w runs in (is.0, is.1)) c.read_context.ensures)

pub returns-in-None : goal.returns-in-None
returns-in-None g c = rw (← c.self.view_is) (does_absent (λ w. (ReadsContext) (w.replica c.args.name).live) c.args.name c.self.inside.world.held
    (c.in-None.ensures.none refl))

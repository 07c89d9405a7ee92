use Rattle.trace_world.proofs.Pinning.{look_done, no_look}
use Rattle.trace_world.proofs.machine.Machine.look.Goals as goal

pub returns-in-Some : goal.returns-in-Some
returns-in-Some g c =
    rw (← c.self.view_is) (look_done c.self.inside.teller c.self.inside.pins.items c.args.pin c.in-Some.pin.now c.args.key.now c.look_at.result c.self.invariant
    c.in-Some.ensures c.look_at.ensures)

pub returns-in-None : goal.returns-in-None
returns-in-None g c = rw (← c.self.view_is) (no_look c.self.inside.teller c.self.inside.pins.items c.args.pin c.args.key.now c.in-None.ensures)

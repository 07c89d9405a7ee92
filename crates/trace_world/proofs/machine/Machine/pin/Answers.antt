use Rattle.std.proofs.Common.{◌∙◌}
use Rattle.trace_world.proofs.Pinning.{all_more, pin_done}
use Rattle.trace_world.proofs.machine.Machine.pin.Goals as goal

pub invariant_of-self-2 : goal.invariant_of-self-2
invariant_of-self-2 g c =
    rw c.in_ok-push.ensures.items (all_more c.self.inside.teller c.self.inside.pins.items _ c.self.invariant c.moment-past.ensures.value
    c.moment-past.ensures.runs c.in_ok-store.ensures.ok)

pub invariant_of-self : goal.invariant_of-self
invariant_of-self g c = rw c.in_err-push.ensures.items c.self.invariant

pub returns : goal.returns
returns g c =
    rw (← c.self.view_is)
    (pin_done c.self.inside.teller c.self.inside.pins.items c.push.new.self.items
    (record { name = c.args.name; past = c.moment-past.result; store = c.in_ok-store.store }) c.into_bytes.result c.len.result
    c.moment-past.ensures.value c.in_ok-store.ensures.ok c.in_ok-push.ensures.items ((λ i. (c.into_bytes.ensures.value i).items) ∙ c.in-Ok.ensures.ok)
    (c.len.ensures ∙ c.self.inside.pins.ok.0))

use Rattle.std.proofs.Common.{ap}
use Rattle.hash_path.specs.declared.fnv1a.Fnv1a.{Fnv1a}
use Rattle.replica_model.specs.Crashing.{Saves}
use Rattle.replica_world.specs.Keeping.{WorldValue}
use Rattle.trace_world.proofs.Events.{occurs_done, occurs_refused}
use Rattle.trace_world.proofs.teller.Teller.save.Goals as goal

pub returns-in-Err : goal.returns-in-Err
returns-in-Err g c =
    rw (← c.self.view_is)
    (occurs_refused c.self.inside.world.held c.save.new.self.held c.args.name (Saves c.args.name) c.in-Err.refusal
    (ap (λ (w : WorldValue Fnv1a). w.held) c.in-Err.ensures.unchanged) c.in-Err.ensures.refused)

pub returns : goal.returns
returns g c =
    rw (← c.self.view_is)
    (occurs_done c.self.inside.world.held c.save.new.self.held c.args.name (Saves c.args.name) c.in_ok-from_slice.field-0
    (ap (λ (w : WorldValue Fnv1a). w.held) c.in_default.ensures.ok) c.in_default.ensures.there
    c.in_ok-from_slice.ensures.items)

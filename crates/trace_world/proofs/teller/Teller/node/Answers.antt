use Rattle.std.proofs.Common.{ap, length, Ok}
use Rattle.hash_path.specs.declared.fnv1a.Fnv1a.{Fnv1a}
use Rattle.replica_model.specs.World.{Node}
use Rattle.replica_world.specs.Happening.{answer_value}
use Rattle.replica_world.specs.Keeping.{WorldValue}
use Rattle.trace_world.proofs.Events.{event_done, event_refused}
use Rattle.trace_world.proofs.teller.Teller.node.Goals as goal

pub returns-in-Err : goal.returns-in-Err
returns-in-Err g c =
    rw (← c.self.view_is) (event_refused c.self.inside.world.held c.event.new.self.held (Node c.args.name) c.in-Err.refusal
    (ap (λ (w : WorldValue Fnv1a). w.held) c.in-Err.ensures.unchanged) c.in-Err.ensures.refused)

pub returns : goal.returns
returns g c =
    rw (← c.self.view_is)
    (event_done c.self.inside.world.held c.event.new.self.held (Node c.args.name) (answer_value c.in_default.field-0.answer)
    (length c.in_default.ensures.ok.more) c.in_default.field-0.made.start c.in_default.field-0.made.end c.in_default.ensures.ok.stops c.in_default.ensures.happened
    (Ok c.in_ok-from_slice.field-0) (ap (λ (w : WorldValue Fnv1a). w.held) c.in_default.ensures.ok.makes) (λ v runs from is. c.in_ok-from_slice.ensures.items) tt)

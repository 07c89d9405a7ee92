use Rattle.std.proofs.Common.{ap, length}
use Rattle.hash_path.specs.declared.fnv1a.Fnv1a.{Fnv1a}
use Rattle.replica_model.specs.World.{Deliver}
use Rattle.replica_world.specs.Happening.{answer_value}
use Rattle.replica_world.specs.Keeping.{WorldValue}
use Rattle.trace_world.proofs.Events.{event_done, event_refused}
use Rattle.trace_world.proofs.teller.Teller.deliver.Goals as goal

pub returns-in-Err : goal.returns-in-Err
returns-in-Err g c =
    rw (← c.self.view_is) (event_refused c.self.inside.world.held c.event.new.self.held (Deliver c.args.message c.args.name) c.in-Err.refusal
    (ap (λ (w : WorldValue Fnv1a). w.held) c.in-Err.ensures.unchanged) c.in-Err.ensures.refused)

pub returns : goal.returns
returns g c =
    rw (← c.self.view_is)
    (event_done c.self.inside.world.held c.event.new.self.held (Deliver c.args.message c.args.name) (answer_value c.in-Ok.told.answer)
    (length c.in-Ok.ensures.ok.more) c.in-Ok.told.made.start c.in-Ok.told.made.end c.in-Ok.ensures.ok.stops c.in-Ok.ensures.happened c.tell.result
    (ap (λ (w : WorldValue Fnv1a). w.held) c.in-Ok.ensures.ok.makes) c.tell.ensures.ok c.tell.ensures.err)

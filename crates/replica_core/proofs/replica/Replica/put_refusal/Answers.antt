use Rattle.std.proofs.Common.{refl}
use Rattle.replica_core.proofs.Steps.{put_spent}
use Rattle.replica_core.proofs.replica.Replica.put_refusal.Goals as goal

pub returns-in-None : goal.returns-in-None
returns-in-None g c place value =
    rw (← c.self.view_is)
    (put_spent (record {
      name = c.self.inside.name;
      live = c.self.inside.live;
      group = c.self.inside.group;
      opened = c.self.inside.opened;
      sessions = c.self.inside.sessions.items;
      kept = c.self.inside.answerer;
    })
    place value (rw c.context.ensures.value at (c.in-None.ensures.spent.0 refl)))

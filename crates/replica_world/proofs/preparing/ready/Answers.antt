use Rattle.replica_world.specs.Happening.{event_value}
use Rattle.replica_world.proofs.Recovered.{unready}
use Rattle.replica_world.proofs.preparing.ready.Goals as goal

pub returns-in-Err-clause-refused : goal.returns-in-Err-clause-refused
returns-in-Err-clause-refused g c hash =
    rw c.unwrap_or.ensures
    (unready hash c.args.replicas.now c.args.posted.now (event_value c.args.event.now) c.foresee-foreseen.result c.in-Err.refusal
    (c.foresee-foreseen.ensures hash) c.in-Err.ensures.refused)

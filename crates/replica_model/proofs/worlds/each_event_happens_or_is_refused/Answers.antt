use Rattle.replica_model.proofs.Deciding.{refused_not}
use Rattle.replica_model.proofs.Happening.{happen_or_refused}
use Rattle.replica_model.proofs.worlds.each_event_happens_or_is_refused.Goals as goal

pub returns-clause-either : goal.returns-clause-either
returns-clause-either c = happen_or_refused

pub returns-clause-not_both : goal.returns-clause-not_both
returns-clause-not_both c = refused_not

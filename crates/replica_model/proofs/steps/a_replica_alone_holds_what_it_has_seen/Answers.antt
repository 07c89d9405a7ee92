use Rattle.replica_model.proofs.Alone.{headline_alone, histories_are_seen}
use Rattle.replica_model.proofs.steps.a_replica_alone_holds_what_it_has_seen.Goals as goal

pub returns-clause-seen : goal.returns-clause-seen
returns-clause-seen c = histories_are_seen

pub returns-clause-holds : goal.returns-clause-holds
returns-clause-holds c = headline_alone

use Rattle.replica_model.proofs.Asks.{asks_one, snapshots_know}
use Rattle.replica_model.proofs.sessions.a_session_has_one_ask.Goals as goal

pub returns-clause-asks : goal.returns-clause-asks
returns-clause-asks c = asks_one

pub returns-clause-known : goal.returns-clause-known
returns-clause-known c = snapshots_know

use Rattle.replica_alone.proofs.Adding.{ends_add_alone}
use Rattle.replica_alone.proofs.seen.an_ended_session_of_a_replica_alone_adds_what_was_opened.Goals as goal

pub returns : goal.returns
returns c = ends_add_alone

use Rattle.replica_alone.proofs.Refusing.{others_mismatch_alone}
use Rattle.replica_alone.proofs.sessions.sessions_of_a_replica_alone_take_no_other_pages.Goals as goal

pub returns : goal.returns
returns c = others_mismatch_alone

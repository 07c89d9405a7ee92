use Rattle.replica_core.proofs.Shows.{shows_alone}
use Rattle.replica_core.proofs.laws.a_replica_alone_shows_what_it_has_seen.Goals as goal

pub returns : goal.returns
returns c = shows_alone

use Rattle.replica_alone.proofs.Taking.{takes_openings_alone, takes_pages_alone}
use Rattle.replica_alone.proofs.sessions.sessions_of_a_replica_alone_take_what_they_wait_for.Goals as goal

pub returns-clause-openings : goal.returns-clause-openings
returns-clause-openings c = takes_openings_alone

pub returns-clause-pages : goal.returns-clause-pages
returns-clause-pages c = takes_pages_alone

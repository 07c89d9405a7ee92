use Rattle.replica_alone.proofs.Asking.{openings_ask_alone, pages_ask_alone}
use Rattle.replica_alone.proofs.sessions.sessions_of_a_replica_alone_ask_for_what_differs.Goals as goal

pub returns-clause-openings : goal.returns-clause-openings
returns-clause-openings c = openings_ask_alone

pub returns-clause-pages : goal.returns-clause-pages
returns-clause-pages c = pages_ask_alone

use Rattle.replica_model.proofs.Differing.{sessions_fetch, openings_ask, pages_ask}
use Rattle.replica_model.proofs.sessions.sessions_ask_for_what_differs.Goals as goal

pub returns-clause-fetched : goal.returns-clause-fetched
returns-clause-fetched c = sessions_fetch

pub returns-clause-openings : goal.returns-clause-openings
returns-clause-openings c = openings_ask

pub returns-clause-pages : goal.returns-clause-pages
returns-clause-pages c = pages_ask

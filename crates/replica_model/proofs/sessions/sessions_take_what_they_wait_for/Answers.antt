use Rattle.replica_model.proofs.Taking.{takes_openings, takes_pages, tells_pages}
use Rattle.replica_model.proofs.sessions.sessions_take_what_they_wait_for.Goals as goal

pub returns-clause-openings : goal.returns-clause-openings
returns-clause-openings c = takes_openings

pub returns-clause-pages : goal.returns-clause-pages
returns-clause-pages c = takes_pages

pub returns-clause-told : goal.returns-clause-told
returns-clause-told c = tells_pages

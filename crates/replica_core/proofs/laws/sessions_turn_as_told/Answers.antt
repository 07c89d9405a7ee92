use Rattle.replica_core.proofs.Tied.{opening_tied, page_tied, gone_tied, again_tied}
use Rattle.replica_core.proofs.laws.sessions_turn_as_told.Goals as goal

pub returns-clause-openings : goal.returns-clause-openings
returns-clause-openings g c = opening_tied

pub returns-clause-pages : goal.returns-clause-pages
returns-clause-pages g c = page_tied

pub returns-clause-gones : goal.returns-clause-gones
returns-clause-gones g c = gone_tied

pub returns-clause-retries : goal.returns-clause-retries
returns-clause-retries g c = again_tied

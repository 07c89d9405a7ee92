use Rattle.replica_core.proofs.TiedLists.{found_tied, none_tied, numbered_tied, none_numbered_tied}
use Rattle.replica_core.proofs.laws.sessions_are_found_as_told.Goals as goal

pub returns-clause-found : goal.returns-clause-found
returns-clause-found g c = found_tied

pub returns-clause-missed : goal.returns-clause-missed
returns-clause-missed g c = none_tied

pub returns-clause-numbered : goal.returns-clause-numbered
returns-clause-numbered g c = numbered_tied

pub returns-clause-none_numbered : goal.returns-clause-none_numbered
returns-clause-none_numbered g c = none_numbered_tied

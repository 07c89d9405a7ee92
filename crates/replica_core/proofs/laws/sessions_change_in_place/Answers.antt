use Rattle.replica_core.proofs.TiedLists.{advances_tied, closes_tied}
use Rattle.replica_core.proofs.laws.sessions_change_in_place.Goals as goal

pub returns-clause-advances : goal.returns-clause-advances
returns-clause-advances g c = advances_tied

pub returns-clause-closes : goal.returns-clause-closes
returns-clause-closes g c = closes_tied

use Rattle.replica_model.proofs.Accounts.{accounts_are}
use Rattle.replica_model.proofs.Telling.{leads_run, leads_go_on}
use Rattle.replica_model.proofs.worlds.accounts_are_told.Goals as goal

pub returns-clause-told : goal.returns-clause-told
returns-clause-told c = accounts_are

pub returns-clause-runs : goal.returns-clause-runs
returns-clause-runs c = leads_run

pub returns-clause-goes_on : goal.returns-clause-goes_on
returns-clause-goes_on c = leads_go_on

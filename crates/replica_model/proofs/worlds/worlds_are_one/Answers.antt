use Rattle.replica_model.proofs.Deciding.{events_one, worlds_one, refused_not, goes_on}
use Rattle.replica_model.proofs.worlds.worlds_are_one.Goals as goal

pub returns-clause-events : goal.returns-clause-events
returns-clause-events c = events_one

pub returns-clause-one : goal.returns-clause-one
returns-clause-one c = worlds_one

pub returns-clause-refused : goal.returns-clause-refused
returns-clause-refused c = refused_not

pub returns-clause-goes_on : goal.returns-clause-goes_on
returns-clause-goes_on c = goes_on

use Rattle.replica_alone.proofs.One.{deeds_one, runs_alone_one, runs_alone_on}
use Rattle.replica_alone.proofs.standing.deeds_of_a_replica_alone_are_one.Goals as goal

pub returns-clause-deeds : goal.returns-clause-deeds
returns-clause-deeds c = deeds_one

pub returns-clause-one : goal.returns-clause-one
returns-clause-one c = runs_alone_one

pub returns-clause-goes_on : goal.returns-clause-goes_on
returns-clause-goes_on c = runs_alone_on

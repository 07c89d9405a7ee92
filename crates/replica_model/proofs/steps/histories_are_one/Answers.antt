use Rattle.replica_model.proofs.Histories.{histories_one, after_one, history_on}
use Rattle.replica_model.proofs.steps.histories_are_one.Goals as goal

pub returns-clause-answered : goal.returns-clause-answered
returns-clause-answered c = histories_one

pub returns-clause-after : goal.returns-clause-after
returns-clause-after c = after_one

pub returns-clause-goes_on : goal.returns-clause-goes_on
returns-clause-goes_on c = history_on

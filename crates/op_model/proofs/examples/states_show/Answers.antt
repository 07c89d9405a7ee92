use Rattle.std.proofs.Common.{[], refl}
use Rattle.op_model.specs.Examples.{dot}
use Rattle.op_model.proofs.examples.states_show.Goals as goal

pub returns-clause-stands : goal.returns-clause-stands
returns-clause-stands c = (dot 2 1, refl)

pub returns-clause-holds : goal.returns-clause-holds
returns-clause-holds c = ([], (dot 2 1, refl))

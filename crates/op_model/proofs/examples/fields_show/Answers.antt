use Rattle.std.proofs.Common.{refl}
use Rattle.op_model.specs.Examples.{dot, f}
use Rattle.op_model.proofs.examples.fields_show.Goals as goal

pub returns-clause-within : goal.returns-clause-within
returns-clause-within c = (f, (dot 1 1, refl))

pub returns-clause-holds : goal.returns-clause-holds
returns-clause-holds c = (dot 1 1, refl)

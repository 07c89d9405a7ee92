use Rattle.op_model.proofs.Fresh.{after-push}
use Rattle.op_model.proofs.Events.{after_elsewhere, means_elsewhere}
use Rattle.op_model.proofs.worlds.events_elsewhere.Goals as goal

pub returns-clause-step : goal.returns-clause-step
returns-clause-step c = after-push

pub returns-clause-untouched : goal.returns-clause-untouched
returns-clause-untouched c = after_elsewhere

pub returns-clause-pairs : goal.returns-clause-pairs
returns-clause-pairs c = means_elsewhere

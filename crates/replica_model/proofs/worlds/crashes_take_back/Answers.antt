use Rattle.replica_model.proofs.Crashing.{take_back}
use Rattle.replica_model.proofs.worlds.crashes_take_back.Goals as goal

pub returns : goal.returns
returns c = take_back

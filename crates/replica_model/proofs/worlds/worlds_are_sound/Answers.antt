use Rattle.replica_model.proofs.Sound.{sound}
use Rattle.replica_model.proofs.worlds.worlds_are_sound.Goals as goal

pub returns : goal.returns
returns c = sound

-- The deeds of a replica by itself decide the world after them.
use Rattle.replica_model.specs.World.{nothing}
use Rattle.replica_model.proofs.OpeningsAlone.{befalls_one, runs_one}
use Rattle.replica_model.proofs.SessionsAlone.{runs_on}
use Rattle.replica_alone.specs.One.{DeedsAreOne, RunsAloneAreOne, RunsAloneGoOn}

pub deeds_one : DeedsAreOne
deeds_one = befalls_one

pub runs_alone_one : RunsAloneAreOne
runs_alone_one hash_of name deeds = runs_one hash_of name deeds nothing

pub runs_alone_on : RunsAloneGoOn
runs_alone_on hash_of name deeds = runs_on hash_of name deeds nothing

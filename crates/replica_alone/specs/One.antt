-- The deeds of a replica by itself decide what comes of them. Of this project.
use Rattle.std.specs.Prelude.{◌≡◌, ℕ, List, [], ◌∷◌, ◌++◌}
use Rattle.replica_model.specs.Alone.{Deed, Befalls, RunsAlone}
use Rattle.replica_model.specs.Step.{Answer}
use Rattle.replica_model.specs.World.{World, nothing}

-- a deed decides its answer and the world after it
abbrev pub DeedsAreOne : Type 0
DeedsAreOne = (hash_of : List ℕ → ℕ) (name : ℕ) (w v v' : World) (d : Deed) (answer answer' : Answer)
    → Befalls hash_of name w d answer v → Befalls hash_of name w d answer' v' → (answer ≡ answer') × (v ≡ v')

-- and so do deeds
abbrev pub RunsAloneAreOne : Type 0
RunsAloneAreOne = (hash_of : List ℕ → ℕ) (name : ℕ) (deeds : List Deed) (w v : World)
    → RunsAlone hash_of name nothing deeds w → RunsAlone hash_of name nothing deeds v → w ≡ v

-- a list of deeds goes on by one
abbrev pub RunsAloneGoOn : Type 0
RunsAloneGoOn = (hash_of : List ℕ → ℕ) (name : ℕ) (deeds : List Deed) (w v : World) (d : Deed) (answer : Answer)
    → RunsAlone hash_of name nothing deeds w → Befalls hash_of name w d answer v → RunsAlone hash_of name nothing (deeds ++ d ∷ []) v

-- What reads of a replica come to. Of this project.
use Rattle.std.specs.Prelude.{ℕ, List}
use Rattle.replica_model.specs.World.{World, Event, nothing, Runs}
use Rattle.op_model.specs.Meaning.{MapState}
use Rattle.op_model.specs.Place.{Place}
use Rattle.trace_world.specs.Outcome.{CommandOutcome, ReadsValues, ReadsFields, ReadsKeys, ReadsSize, ReadsContext, ReadsDigest}

-- each read of this live state comes to an outcome
pub record IsRead (hash_of : List ℕ → ℕ) (live : MapState) : Type 0 where
  pub values : (place : Place) → (outcome : CommandOutcome) × ReadsValues place live outcome
  pub fields : (key : List ℕ) → (outcome : CommandOutcome) × ReadsFields key live outcome
  pub keys : (outcome : CommandOutcome) × ReadsKeys live outcome
  pub size : (outcome : CommandOutcome) × ReadsSize live outcome
  pub context : (outcome : CommandOutcome) × ReadsContext live outcome
  pub digest : (outcome : CommandOutcome) × ReadsDigest hash_of live outcome

-- so it is of each replica, after every list of events, whatever clashed
abbrev pub ReplicasAreRead : Type 0
ReplicasAreRead = (hash_of : List ℕ → ℕ) (events : List Event) (w : World) → Runs hash_of nothing events w → (name : ℕ) → IsRead hash_of (w.replica name).live

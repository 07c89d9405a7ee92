-- What the calls of a replica are answered, and what a flush sends, by what the replica has seen and is to send alone. Of this project.
use Rattle.std.specs.Prelude.{◌≡◌, ℕ, List, [], ◌∷◌, Option, Some, None}
use Rattle.op_model.specs.Made.{dot_at, removed_at, field_removed_at, cleared_at}
use Rattle.op_model.specs.Meaning.{state}
use Rattle.op_model.specs.Operation.{Operation}
use Rattle.replica_model.specs.Mail.{Mail, Delta}
use Rattle.replica_model.specs.Replica.{Replica}
use Rattle.replica_model.specs.Step.{Call, Put, Remove, RemoveField, Clear, Flush, Ask, Retry, Abandon, Restart, Do, Answer, Made, Counted, IsStep}
use Rattle.replica_model.specs.World.{World, Event, nothing, Runs, Unclashed}

-- a put the next dot of its name, and a removal the number of the writes that it observes; what has been seen tells no more
abbrev pub answer_by : List Operation → ℕ → Call → Option Answer
answer_by S name (Put place value) = Some (Made (dot_at S name))
answer_by S name (Remove key) = Some (Counted (removed_at S key))
answer_by S name (RemoveField place) = Some (Counted (field_removed_at S place))
answer_by S name Clear = Some (Counted (cleared_at S))
answer_by S name Flush = None
answer_by S name (Ask peer) = None
answer_by S name (Retry number) = None
answer_by S name (Abandon number) = None
answer_by S name Restart = None

-- a flush sends what was made since the last one, and nothing where nothing was
abbrev pub flushed_by : List Operation → List Mail
flushed_by [] = []
flushed_by (o ∷ S) = Delta (state (o ∷ S)) ∷ []

-- a replica's calls are told by these sets
pub record IsToldBy (hash_of : List ℕ → ℕ) (r : Replica) (name : ℕ) (seen outgoing : List Operation) : Type 0 where
  pub calls : (c : Call) (new : Replica) (answer : Answer) (out : List Mail) → IsStep hash_of r (Do c) new answer out → (told : Answer)
      → answer_by seen name c ≡ Some told → answer ≡ told
  pub flushes : (new : Replica) (answer : Answer) (out : List Mail) → IsStep hash_of r (Do Flush) new answer out → out ≡ flushed_by outgoing

-- over all lists of events, unless pages or values met clash
abbrev pub CallsAreTold : Type 0
CallsAreTold = (hash_of : List ℕ → ℕ) (events : List Event) (w : World) → Runs hash_of nothing events w → Unclashed hash_of w
    → (name : ℕ) → IsToldBy hash_of (w.replica name) name (w.seen name) (w.outgoing name)

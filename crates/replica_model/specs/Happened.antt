-- What happened in a world, as it is told of it: each event with what it was answered and how many messages it sent. Of this project.
use Rattle.std.specs.Prelude.{◌≡◌, ℕ, ◌+◌, List, [], ◌∷◌, length, map}
use Rattle.replica_model.specs.Step.{Answer}
use Rattle.replica_model.specs.World.{World, Event, Happens}

pub record Happened : Type 0 where
  pub event : Event
  pub answer : Answer
  pub sent : ℕ  -- how many messages it sent

-- the events alone
abbrev pub events_in : List Happened → List Event
events_in = map (λ h. h.event)

module _ (hash_of : List ℕ → ℕ) where
  -- all this happened, and led from the first world to the last
  abbrev pub Leads : World → List Happened → World → Type 0
  Leads w [] v = v ≡ w
  Leads w (h ∷ hs) v = (u : World) × Happens hash_of w h.event h.answer u × (length u.messages ≡ length w.messages + h.sent) × Leads u hs v

-- The past of a world whose replicas may crash: what happened, each with whether its replica was saved at it or later. A crash takes away what its
-- replica did since it was last saved. Of this project.
use Rattle.std.specs.Prelude.{◌≡◌, ◌==◌, ◌≤◌, ◌+◌, ◌||◌, ℕ, nat_lt, Bool, true, false, not, List, [], ◌∷◌, ◌++◌, map, filter, cond, Option, Some, None}
use Rattle.std.specs.List.{fold}
use Rattle.replica_model.specs.Crashing.{Occurrence, Saving, Passing, Saves, Crashes, System, Goes, may_be_lost, restarted, started, survivors}
use Rattle.replica_model.specs.Happened.{Happened, events_in}
use Rattle.replica_model.specs.Laws.{replica_of}
use Rattle.replica_model.specs.Replica.{Replica, restarts}
use Rattle.replica_model.specs.Step.{Answer, Came}
use Rattle.replica_model.specs.World.{Event, Node, At, Deliver, is_sent}

pub record Held : Type 0 where
  pub happened : Happened
  pub is_saved : Bool

abbrev pub happened_in : List Held → List Happened
happened_in = map (λ h. h.happened)

-- the events alone
abbrev pub events_of : List Held → List Event
events_of hs = events_in (happened_in hs)

-- whether it is something that the replica of this name did: that a replica is there is never taken away
abbrev pub is_act : ℕ → Event → Bool
is_act name (Node n) = false
is_act name (At n c) = n == name
is_act name (Deliver number n) = n == name

-- the replica of this name is saved
abbrev pub save_at : ℕ → Held → Held
save_at name h = record { happened = h.happened; is_saved = h.is_saved || (replica_of h.happened.event == name) }

-- whether it is left where the replica of this name crashes
abbrev pub is_left : ℕ → Held → Bool
is_left name h = h.is_saved || not (is_act name h.happened.event)

-- as one more occurs: an event with which its replica is saved, or is not; a replica is saved; or one crashes, and comes back
abbrev pub after : List Held → Occurrence → List Held
after hs (Saving h) = map (save_at (replica_of h.event)) hs ++ record { happened = h; is_saved = true } ∷ []
after hs (Passing h) = hs ++ record { happened = h; is_saved = false } ∷ []
after hs (Saves name) = map (save_at name) hs
after hs (Crashes name) = filter (is_left name) hs ++ record { happened = restarted name; is_saved = true } ∷ []

-- after all that occurred
abbrev pub held_after : List Occurrence → List Held
held_after = fold after []

-- Whether a replica is saved with an event: where it is new, where messages are sent, and where a synchronisation goes further.
abbrev pub goes_further : Answer → Bool
goes_further (Came outcome) = is_sent outcome
goes_further other = false

abbrev pub is_saved_with : Happened → Bool
is_saved_with h = not (may_be_lost h.event) || (not (h.sent == 0) || goes_further h.answer)

abbrev pub occurrence : Happened → Occurrence
occurrence h = cond (is_saved_with h) (Saving h) (Passing h)

-- ---- how it is kept: what happened with how often its replica had been saved before it

-- an event is saved where its replica was saved more often by now
abbrev pub held_by : (ℕ → ℕ) → Happened × ℕ → Held
held_by saves a = record { happened = a.0; is_saved = nat_lt a.1 (saves (replica_of a.0.event)) }

abbrev pub held_in : (ℕ → ℕ) → List (Happened × ℕ) → List Held
held_in saves = map (held_by saves)

-- each happened before its replica was saved so often; that a replica is there is saved at once
abbrev pub saves_at : Event → ℕ → ℕ
saves_at (Node name) n = n + 1
saves_at (At name c) n = n
saves_at (Deliver number name) n = n

abbrev pub AreBefore : (ℕ → ℕ) → List (Happened × ℕ) → Type 0
AreBefore saves [] = Unit {0}
AreBefore saves (a ∷ rest) = (saves_at a.0.event a.1 ≤ saves (replica_of a.0.event)) × AreBefore saves rest

-- What occurred led to a system whose replicas come back from what is kept of them, and are as they were last saved where nothing is kept.
pub record IsKept (hash_of : List ℕ → ℕ) (saves : ℕ → ℕ) (back : ℕ → Option Replica) (accepted : List (Happened × ℕ)) : Type 0 where
  pub occurred : List Occurrence
  pub system : System
  pub goes : Goes hash_of started occurred system
  pub holds : held_in saves accepted ≡ held_after occurred
  pub saved : (name : ℕ) (r : Replica) → back name ≡ Some r → r ≡ restarts (system.saved name)
  pub clean : (name : ℕ) → back name ≡ None → system.saved name ≡ system.replica name
  pub before : AreBefore saves accepted

-- what is held is what crashes left
abbrev pub HeldSurvives : Type 0
HeldSurvives = (xs : List Occurrence) → happened_in (held_after xs) ≡ survivors xs

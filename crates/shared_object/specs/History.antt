-- The histories of an object that clients share: the lists of the events that it accepted, each a call of the client at a place. Of this
-- project, after the linearizability of Herlihy and Wing, "Linearizability: A Correctness Condition for Concurrent Objects" (1990).
use Rattle.std.specs.Prelude.{◌≡◌, ◌⊎◌, ℕ, ◌+◌, ◌==◌, List, [], ◌∷◌, ◌++◌, length, take, slice_index, Option, Some, None}
use Rattle.std.specs.List.{filter}

module _ {E : Type 0} (place : E → ℕ) where
  -- the calls of the client at a place, in order
  abbrev pub calls_by : ℕ → List E → List E
  calls_by p history = filter (λ e. place e == p) history

  -- how many calls each place has: of each place past these there is none
  abbrev pub AreCounts : List ℕ → List E → Type 0
  AreCounts counts history = (p : ℕ) → length (calls_by p history) ≡ slice_index counts p

-- what a client knows: its place, how many of its calls were accepted, and the front of the history that it saw, learnt or wrote
pub record Seat (E : Type 0) : Type 0 where
  pub place : ℕ
  pub operations : ℕ
  pub front : List E

-- the calls that a client made: so many of the first of its place in what it saw
abbrev pub made : {E : Type 0} → (E → ℕ) → Seat E → List E
made place s = take s.operations (calls_by place s.place s.front)

-- how many places were taken by a client, how many are free, and the clients that were given back, the last one last
pub record Places (E : Type 0) : Type 0 where
  pub taken : ℕ
  pub free : ℕ
  pub back : List (Seat E)

-- A client at a place that nobody had: it made and saw nothing yet.
abbrev pub first_at : {E : Type 0} → ℕ → Seat E
first_at p = record { place = p; operations = 0; front = [] }

-- A client is handed out: the one that was given back last goes on where it stopped, so its calls are those that its place made so far; where none is
-- back, it is the first at the next place.
abbrev pub HandsOut : {E : Type 0} → Places E → Places E → Seat E → Type 0
HandsOut old new client =
    ((old.back ≡ new.back ++ client ∷ []) × (new.taken ≡ old.taken) × (new.free ≡ old.free))
    ⊎ ((old.back ≡ []) × (client ≡ first_at old.taken) × (new.back ≡ []) × (new.taken ≡ old.taken + 1) × (new.free + 1 ≡ old.free))

-- A client was given back.
abbrev pub TakesBack : {E : Type 0} → Places E → Places E → Seat E → Type 0
TakesBack old new client = (new.back ≡ old.back ++ client ∷ []) × (new.taken ≡ old.taken) × (new.free ≡ old.free)

-- the front that a View has seen, which is there but while it is inside
abbrev pub seen_in : {E : Type 0} → Option (List E) → List E
seen_in None = []
seen_in (Some front) = front

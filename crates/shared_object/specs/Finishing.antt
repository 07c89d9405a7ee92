-- What is known once an object is taken out from among its clients. Of this project.
use Rattle.std.specs.Prelude.{◌≡◌, ℕ, ◌<◌, ◌≤◌, List, [], length, Some}
use Rattle.std.specs.List.{slice_get, sum_by}
use mathlib.Core.List.{IsPrefix}
use Rattle.shared_object.specs.History.{Seat, calls_by, made}

-- one of the clients has this place
abbrev pub HasClient : {E : Type 0} → List (Seat E) → ℕ → Type 0
HasClient {E} clients p = (i : ℕ) × (s : Seat E) × (slice_get clients i ≡ Some s) × (s.place ≡ p)

-- they are clients of all places that were taken, and as many
abbrev pub AreOfAll : {E : Type 0} → ℕ → List (Seat E) → Type 0
AreOfAll taken clients = (length clients ≡ taken) × ((p : ℕ) → p < taken → HasClient clients p)

module _ {E : Type 0} (place : E → ℕ) where
  -- the client has seen a front of the history, and the calls of its place there are just those that it made
  pub record IsOwn (history : List E) (s : Seat E) : Type 0 where
    pub seen : IsPrefix s.front history
    pub calls : calls_by place s.place history ≡ made place s

  -- These are all clients of the places that were taken, and the history has their calls and no others.
  pub record AreAll (history : List E) (taken : ℕ) (clients : List (Seat E)) : Type 0 where
    pub count : length clients ≡ taken
    pub own : (i : ℕ) (s : Seat E) → slice_get clients i ≡ Some s → IsOwn history s
    pub each : (p : ℕ) → p < taken → HasClient clients p
    pub others : (p : ℕ) → taken ≤ p → calls_by place p history ≡ []
    pub sum : sum_by (λ s. s.operations) clients ≡ length history

  -- Nothing has happened while so many places were taken: no history that has the calls of their clients and no others has an event.
  abbrev pub NothingHappened : ℕ → Type 0
  NothingHappened taken = (history : List E) (clients : List (Seat E)) → AreAll history taken clients → history ≡ []

-- The replica that a set of strings comes to: it holds the least state above all their deltas, in whatever order and however often they stand.
-- Of this project; states and their join are those of Almeida, Shoker and Baquero, "Delta State Replicated Data Types" (2018).
use Rattle.std.specs.Prelude.{◌≡◌, ◌⊎◌, ◌↔◌, ℕ, ◌≤◌, List, [], Contains}
use Rattle.op_model.specs.Meaning.{MapState, state}
use Rattle.sync_model.specs.Closing.{IsBelow}
use Rattle.replica_model.specs.Replica.{Replica, fresh}
use Rattle.replica_store.specs.Entry.{Entry, Named, Opened, Changed, IsEntry}

-- one of the strings says this
abbrev pub Says : List (List ℕ) → Entry → Type 0
Says strings entry = (string : List ℕ) × Contains strings string × IsEntry string entry

-- all deltas are below the state
abbrev pub AreBelow : List (List ℕ) → MapState → Type 0
AreBelow strings p = (delta : MapState) → Says strings (Changed delta) → IsBelow delta p

pub record IsRebuilt (strings : List (List ℕ)) (r : Replica) : Type 0 where
  pub named : Says strings (Named r.name)
  pub alone : (name : ℕ) → Says strings (Named name) → name ≡ r.name
  pub above : AreBelow strings r.live
  pub least : (p : MapState) → AreBelow strings p → IsBelow r.live p
  pub numbers : (number : ℕ) → Says strings (Opened number) → number ≤ r.opened
  pub newest : (r.opened ≡ 0) ⊎ Says strings (Opened r.opened)
  pub group : r.group ≡ state []
  pub sessions : r.sessions ≡ []
  pub kept : r.kept ≡ []

-- no string is there yet, and nothing happened to the replica
abbrev pub IsKeptAs : List (List ℕ) → Replica → Type 0
IsKeptAs strings r = IsRebuilt strings r ⊎ ((strings ≡ []) × (r ≡ fresh r.name))

-- Strings with the same members come to one replica at most.
abbrev pub OneReplica : Type 0
OneReplica = (xs ys : List (List ℕ)) (r s : Replica) → ((string : List ℕ) → Contains xs string ↔ Contains ys string) → IsRebuilt xs r → IsRebuilt ys s → r ≡ s

-- Histories of one replica: the calls and deliveries that it accepted, each at the place of the client that made it. Of this project.
use Rattle.std.specs.Prelude.{◌≡◌, ℕ, List, [], ◌∷◌, ◌++◌}
use Rattle.replica_model.specs.Mail.{Mail}
use Rattle.replica_model.specs.Replica.{Replica, fresh}
use Rattle.replica_model.specs.Step.{Act, Answer, IsStep}

-- an act, and the place of its client
pub record Entry : Type 0 where
  pub place : ℕ
  pub act : Act

module _ (hash_of : List ℕ → ℕ) where
  -- the replica after these entries, from one on, and what each was answered
  abbrev pub Runs : Replica → List Entry → List Answer → Replica → Type 0
  Runs r [] answers s = (answers ≡ []) × (s ≡ r)
  Runs r (e ∷ es) answers s =
      (answer : Answer) × (more : List Answer) × (answers ≡ answer ∷ more)
      × ((next : Replica) × (out : List Mail) × IsStep hash_of r e.act next answer out × Runs next es more s)

  -- a new replica of the name is this one after the history
  abbrev pub IsAfter : ℕ → List Entry → Replica → Type 0
  IsAfter name history r = (answers : List Answer) × Runs (fresh name) history answers r

-- the replica after a history is one, and so are the answers
abbrev pub HistoriesAreOne : Type 0
HistoriesAreOne = (hash_of : List ℕ → ℕ) (r s t : Replica) (history : List Entry) (answers others : List Answer)
    → Runs hash_of r history answers s → Runs hash_of r history others t → (answers ≡ others) × (s ≡ t)

abbrev pub AfterIsOne : Type 0
AfterIsOne = (hash_of : List ℕ → ℕ) (name : ℕ) (history : List Entry) (s t : Replica) → IsAfter hash_of name history s → IsAfter hash_of name history t → s ≡ t

-- a history goes on by each step
abbrev pub HistoryGoesOn : Type 0
HistoryGoesOn = (hash_of : List ℕ → ℕ) (name : ℕ) (history : List Entry) (r next : Replica) (e : Entry) (answer : Answer) (out : List Mail)
    → IsAfter hash_of name history r → IsStep hash_of r e.act next answer out → IsAfter hash_of name (history ++ e ∷ []) next

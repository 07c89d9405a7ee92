-- What is read of the strings, one after the other. Of this project.
use Rattle.std.specs.Prelude.{◌≡◌, ◌⊎◌, ℕ, ◌≤◌, Bool, IsTrue, List}
use Rattle.op_model.specs.Meaning.{MapState}
use Rattle.sync_model.specs.Closing.{IsBelow}
use Rattle.replica_model.specs.Replica.{Replica}
use Rattle.replica_store.specs.Entry.{Entry, Named, Opened, Changed, SaysDelta}
use Rattle.replica_store.specs.Rebuilt.{Says, AreBelow}

-- no other name is said, the name is where so, and the number is the greatest
pub record IsTold (name : ℕ) (strings : List (List ℕ)) (is_named : Bool) (number : ℕ) : Type 0 where
  pub named : IsTrue is_named → Says strings (Named name)
  pub alone : (other : ℕ) → Says strings (Named other) → other ≡ name
  pub numbers : (n : ℕ) → Says strings (Opened n) → n ≤ number
  pub newest : (number ≡ 0) ⊎ Says strings (Opened number)

-- the least state above the old one and the deltas, and nothing else changed
pub record HasJoined (strings : List (List ℕ)) (old new : Replica) : Type 0 where
  pub grows : IsBelow old.live new.live
  pub above : AreBelow strings new.live
  pub least : (p : MapState) → IsBelow old.live p → AreBelow strings p → IsBelow new.live p
  pub rest : new ≡ record old { live = new.live }

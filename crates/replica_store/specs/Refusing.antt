-- How a call of a store that is refused leaves it. Of this project.
use Rattle.std.specs.Prelude.{◌≡◌, false, IsTrue, ⊤}
use Rattle.dots.specs.declared.refusal.Refusal.{Refusal}
use Rattle.dots.specs.declared.refusal.Refusal.TheVariants as cause
use Rattle.replica_model.specs.Mail.{Mail}
use Rattle.replica_core.specs.Guarding.{HasLost}
use Rattle.replica_core.specs.Meaning.{meaning}
use Rattle.replica_core.specs.Stepping.{Stays}
use Rattle.replica_store.specs.declared.store_error.StoreError.{StoreError}
use Rattle.replica_store.specs.declared.store_error.StoreError.TheVariants.{Refused, OfSeveral, Log, OutOfMemory, Failed, LostMemory}
use Rattle.replica_store.specs.Store.{StoreValue}

-- the log failed, or no memory was left for what goes into it
abbrev pub IsUnkept : StoreError → Type 0
IsUnkept (Log error) = ⊤
IsUnkept OutOfMemory = ⊤
IsUnkept _ = ⊥

-- nothing changed
pub record IsSame {S Hash : Type 0} (old new : StoreValue S Hash) : Type 0 where
  pub replica : Stays old.replica new.replica
  pub log : new.log ≡ old.log
  pub usable : (old.is_failed ≡ false) × (new.is_failed ≡ false)

-- What the replica refuses changes nothing. What could not be kept leaves the store failed, and a failed one answers that it is.
abbrev pub LeavesBy : {S Hash : Type 0} → (Refusal → Type 0) → StoreValue S Hash → StoreValue S Hash → StoreError → Type 0
LeavesBy Refuses old new (Refused refusal) = Refuses refusal × IsSame old new
LeavesBy Refuses old new (Log error) = (old.is_failed ≡ false) × IsTrue new.is_failed
LeavesBy Refuses old new OutOfMemory = (old.is_failed ≡ false) × IsTrue new.is_failed
LeavesBy Refuses old new Failed = IsTrue old.is_failed × (new ≡ old)
LeavesBy Refuses old new _ = ⊥

-- the same of a message that is taken in; one that tells of a lost memory changes nothing
abbrev pub LeavesByTaking : {S Hash : Type 0} → Mail → StoreValue S Hash → StoreValue S Hash → StoreError → Type 0
LeavesByTaking mail old new (Refused refusal) = (refusal ≡ cause.OutOfMemory) × IsSame old new
LeavesByTaking mail old new (Log error) = (old.is_failed ≡ false) × IsTrue new.is_failed
LeavesByTaking mail old new OutOfMemory = (old.is_failed ≡ false) × IsTrue new.is_failed
LeavesByTaking mail old new Failed = IsTrue old.is_failed × (new ≡ old)
LeavesByTaking mail old new LostMemory = HasLost (meaning old.replica) mail × (old.is_failed ≡ false) × (new ≡ old)
LeavesByTaking mail old new _ = ⊥

-- the same of several writes at once: where the replica refuses one, those before it were made, and the store failed
abbrev pub LeavesAllBy : {S Hash : Type 0} → StoreValue S Hash → StoreValue S Hash → StoreError → Type 0
LeavesAllBy old new (OfSeveral refusal) = (old.is_failed ≡ false) × IsTrue new.is_failed × (new.log ≡ old.log)
LeavesAllBy old new (Log error) = (old.is_failed ≡ false) × IsTrue new.is_failed
LeavesAllBy old new OutOfMemory = (old.is_failed ≡ false) × IsTrue new.is_failed
LeavesAllBy old new Failed = IsTrue old.is_failed × (new ≡ old)
LeavesAllBy old new _ = ⊥

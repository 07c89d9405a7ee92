-- What a contract sees of a store, and what its calls do. Of this project.
use Rattle.std.specs.Prelude.{◌≡◌, ℕ, Bool, List, [], ◌∷◌, Option, Some, None, refl}
use Rattle.std.specs.Coded.{Coded, code_by, coded×, coded_bool}
use Rattle.std.specs.declared.vec.Vec.{Vec}
use Rattle.wire_form.specs.Message.{MessageValue, Spells}
use Rattle.sqlite.specs.State.{State, HasCleanDisk}
use Rattle.sqlite_trees.specs.declared.store.Store.{Ghosts}
use Rattle.durable_log.specs.Log.{LogValue, log_code, log_state, strings}
use Rattle.replica_model.specs.Replica.{Replica}
use Rattle.replica_model.specs.Mail.{Mail, mail_of}
use Rattle.replica_model.specs.Step.{Call, Answer, Nothing, Flush, Do}
use Rattle.replica_core.specs.Meaning.{ReplicaValue, replica_code}
use Rattle.replica_core.specs.Stepping.{Steps}
use Rattle.replica_store.specs.Rebuilt.{IsKeptAs}

-- its replica, its log, and whether a call failed
pub record StoreValue (S Hash : Type 0) : Type 0 where
  pub replica : ReplicaValue Hash
  pub log : LogValue S
  pub is_failed : Bool

abbrev pub store_code : {S Hash : Type 0} → Coded S → Coded Hash → Coded (StoreValue S Hash)
store_code {S} {Hash} log hash =
    code_by (ReplicaValue Hash × (LogValue S × Bool)) (coded× (replica_code hash) (coded× (log_code log) coded_bool))
    (λ s. (s.replica, (s.log, s.is_failed))) (λ p. record { replica = p.0; log = p.1.0; is_failed = p.1.1 }) (λ _. refl)

-- the bytes, if there are any, spell what is sent
abbrev pub AreSent : {A : Type 0} → Option (Vec ℕ A) → List Mail → Type 0
AreSent None out = out ≡ []
AreSent (Some bytes) out = (message : MessageValue) × Spells bytes.items message × (out ≡ mail_of message ∷ [])

-- A call and the flush of what it made.
pub record Writes {Hash : Type 0} (hash_of : Hash → List ℕ → ℕ) (old new : ReplicaValue Hash) (call : Call) (answer : Answer) (out : List Mail) : Type 0 where
  pub mid : ReplicaValue Hash
  pub made : Steps hash_of old mid (Do call) answer []
  pub sent : Steps hash_of mid new (Do Flush) Nothing out

-- the replica comes back from a log that was opened so
abbrev pub ComesBackFrom : {S : Type 0} → Ghosts S → (State → Type 0) → LogValue S → Replica → Type 0
ComesBackFrom {S} g IsOpen now r = (log : LogValue S) × (HasCleanDisk (log_state g log) → IsOpen (log_state g log))
    × IsKeptAs (strings (log_state g log).now.trees) r

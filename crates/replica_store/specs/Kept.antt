-- What is kept of a replica in a log, now and over a crash. Of this project.
use Rattle.std.specs.Prelude.{◌≡◌, ◌⊎◌, ℕ, ℤ, List, ◌∷◌, length, Contains}
use Rattle.sqlite.specs.State.{State}
use Rattle.sqlite_trees.specs.Tree.{Trees, rowid}
use Rattle.sqlite.specs.Order.{Row}
use Rattle.sqlite.specs.declared.types.Value.TheVariants.{Int}
use Rattle.wire_form.specs.Message.{MessageValue, Spells}
use Rattle.sqlite_disk.specs.declared.Disk as disk
use Rattle.sqlite_disk.specs.declared.Files.{Files}
use Rattle.durable_log.specs.Log.{strings, Gains, IsReady, IsInFiles}
use Rattle.op_model.specs.Meaning.{MapState}
use Rattle.replica_model.specs.Mail.{Delta, mail_of}
use Rattle.replica_model.specs.Replica.{Replica, restarts}
use Rattle.replica_store.specs.Entry.{NAMED, OPENED, CHANGED, SaysNumber, SaysDelta}
use Rattle.replica_store.specs.Rebuilt.{IsRebuilt}

-- the strings of a database come to the replica as it comes back
abbrev pub Keeps : Trees → Replica → Type 0
Keeps db r = IsRebuilt (strings db) (restarts r)

-- the log keeps the replica, and whatever a crash at this moment leaves does
pub record IsKept (s : State) (r : Replica) : Type 0 where
  pub now : Keeps s.now.trees r
  pub crash : (db : Trees) → s.may_leave db → Keeps db r

-- what a crash at this moment leaves keeps the one replica or the other
abbrev pub KeepsEither : State → Replica → Replica → Type 0
KeepsEither s old new = (db : Trees) → s.may_leave db → Keeps db old ⊎ Keeps db new

-- whatever a crash at this moment leaves keeps the replica
abbrev pub KeepsAlways : State → Replica → Type 0
KeepsAlways s r = (db : Trees) → s.may_leave db → Keeps db r

-- the strings say all that is kept of the replica: its name, the number of its last own session, and what it holds
pub record TellAll (r : Replica) (name number all : List ℕ) : Type 0 where
  pub named : SaysNumber NAMED name r.name
  pub opened : SaysNumber OPENED number r.opened
  pub changed : SaysDelta all r.live

-- no row has another number than these three
abbrev pub HasThreeRows : Trees → Type 0
HasThreeRows db = (places : List ℤ) × (length places ≡ 3) × ((row : Row) (place : ℤ) → Contains (db 0) row → rowid row ≡ Int place → Contains places place)

-- a string more, which says the message or the number
abbrev pub GainsMessage : Trees → Trees → MessageValue → Type 0
GainsMessage old new message = (bytes : List ℕ) × Spells bytes message × Gains old new (CHANGED ∷ bytes)

abbrev pub GainsDelta : Trees → Trees → MapState → Type 0
GainsDelta old new d = (message : MessageValue) × (mail_of message ≡ Delta d) × GainsMessage old new message

abbrev pub GainsNumber : Trees → Trees → ℕ → Type 0
GainsNumber old new number = (string : List ℕ) × SaysNumber OPENED string number × Gains old new string

abbrev pub GainsName : Trees → Trees → ℕ → Type 0
GainsName old new name = (string : List ℕ) × SaysNumber NAMED string name × Gains old new string

-- the files hold a database that keeps the replica, and so does the database file alone
abbrev pub IsKeptIn : {D : Type 0} → disk.Ghosts D → Files D → Replica → Type 0
IsKeptIn g files r = (db : Trees) × IsInFiles g files db × Keeps db r

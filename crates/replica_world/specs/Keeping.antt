-- How a world keeps what its events make: its replicas and the bytes of its messages are those of the model. Of this project.
use Rattle.std.specs.Prelude.{◌≡◌, ◌≤◌, ℕ, false, List, length, map, Option, Some, is_some}
use Rattle.std.specs.BTreeMap.{BTreeMap, get}
use Rattle.std.specs.Ordering.{nat_cmp}
use Rattle.dots.specs.declared.refusal.Refusal.{Refusal}
use Rattle.wire_form.specs.Message.{MessageValue}
use Rattle.sync_protocol.specs.Posting.{IsPosted}
use Rattle.replica_core.specs.Meaning.{ReplicaValue, hash_in, meaning, waiting_in}
use Rattle.replica_core.specs.Stepping.{Steps}
use Rattle.replica_model.specs.Mail.{Mail, mail_of}
use Rattle.replica_model.specs.Replica.{fresh, restarts}
use Rattle.replica_model.specs.Step.{Answer, Call, Do, Take}
use Rattle.replica_model.specs.Happened.{Happened, Leads}
use Rattle.replica_model.specs.Seen.{Account, account}
use Rattle.replica_model.specs.Spelled.{AreSpelled}
use Rattle.replica_model.specs.World.{World, Event, is_node, nothing, Happens}
use Rattle.replica_world.specs.Held.{Held, events_of, happened_in}
use Rattle.replica_world.specs.Refused.{ForetellsIn, IsRefusedIn}
use Rattle.replica_world.specs.Replaces.{Replaces}
use Rattle.replica_world.specs.Spelled.{Gains}

-- a world, as it is seen: the hash of all keys' paths, the bytes of the messages, from 1 on, and what happened and no crash took away, with whether it
-- is saved
pub record WorldValue (Hash : Type 0) : Type 0 where
  pub hash : Hash
  pub messages : List (List ℕ)
  pub held : List Held

-- the account of what happened
unfoldable pub account_of : {Hash : Type 0} → WorldValue Hash → Account
account_of w = account w.messages (happened_in w.held)

-- the events by themselves
abbrev pub past_of : {Hash : Type 0} → WorldValue Hash → List Event
past_of w = events_of w.held

module _ {Hash : Type 0} where
  -- the replicas and the messages are those of the model's world
  pub record Keeps (hash : Hash) (replicas : BTreeMap ℕ (ReplicaValue Hash)) (messages : List (List ℕ)) (w : World) : Type 0 where
    pub there : (name : ℕ) → is_some (get nat_cmp replicas name) ≡ is_node w name
    pub means : (name : ℕ) (r : ReplicaValue Hash) → get nat_cmp replicas name ≡ Some r → meaning r ≡ w.replica name
    pub hashed : (name : ℕ) (r : ReplicaValue Hash) → get nat_cmp replicas name ≡ Some r → hash_in r ≡ hash
    pub absent : (name : ℕ) → is_node w name ≡ false → w.replica name ≡ fresh name
    pub spelled : AreSpelled messages (map (λ m. m.mail) w.messages)

module _ {Hash : Type 0} (hash_of : Hash → List ℕ → ℕ) where
  -- after all that happened they are those of the world to which it led
  pub record IsWorld (hash : Hash) (replicas : BTreeMap ℕ (ReplicaValue Hash)) (messages : List (List ℕ)) (hs : List Happened) : Type 0 where
    pub world : World
    pub leads : Leads (hash_of hash) nothing hs world
    pub keeps : Keeps hash replicas messages world

  -- the event made the second replicas and messages of the first, and was answered this
  abbrev pub Makes : Hash → BTreeMap ℕ (ReplicaValue Hash) → List (List ℕ) → Event → Answer → BTreeMap ℕ (ReplicaValue Hash) → List (List ℕ) → Type 0
  Makes hash old messages e answer new more =
      (w : World) → Keeps hash old messages w → (v : World) × Happens (hash_of hash) w e answer v × Keeps hash new more v

-- an event is refused as the model refuses it, and for want of memory only where that does not
abbrev pub IsRefusedEvent : {Hash : Type 0} → Hash → BTreeMap ℕ (ReplicaValue Hash) → List (List ℕ) → Event → Refusal → Type 0
IsRefusedEvent hash replicas messages e refusal = (w : World) → Keeps hash replicas messages w → IsRefusedIn w e refusal

-- told before an event happens: the refusal that it meets whatever memory there is, or that it meets none
abbrev pub ForetellsEvent : {Hash : Type 0} → Hash → BTreeMap ℕ (ReplicaValue Hash) → List (List ℕ) → Event → Option Refusal → Type 0
ForetellsEvent hash replicas messages e told = (w : World) → Keeps hash replicas messages w → ForetellsIn w e told

-- what a refused event leaves
abbrev pub LeavesWorld : {Hash : Type 0} → Hash → BTreeMap ℕ (ReplicaValue Hash) → List (List ℕ) → BTreeMap ℕ (ReplicaValue Hash) → List (List ℕ) → Type 0
LeavesWorld hash old messages new more = (w : World) → Keeps hash old messages w → Keeps hash new more w

-- a call of a replica was made and answered this, and what it sends is posted
abbrev pub MakesCall : {Hash : Type 0} → (Hash → List ℕ → ℕ) → ReplicaValue Hash → ReplicaValue Hash → Call → Answer → List (List ℕ) → List (List ℕ) → Type 0
MakesCall hash_of old new call answer messages more =
    (out : List MessageValue) × Steps hash_of old new (Do call) answer (map mail_of out) × IsPosted Gains messages more out

-- and a delivery
abbrev pub TakesMail : {Hash : Type 0} → (Hash → List ℕ → ℕ) → ReplicaValue Hash → ReplicaValue Hash → Mail → Answer → List (List ℕ) → List (List ℕ) → Type 0
TakesMail hash_of old new mail answer messages more =
    (out : List MessageValue) × Steps hash_of old new (Take mail) answer (map mail_of out) × IsPosted Gains messages more out

-- the replica of this name came back from what it was
abbrev pub Restarts : {Hash : Type 0} → Hash → BTreeMap ℕ (ReplicaValue Hash) → BTreeMap ℕ (ReplicaValue Hash) → ℕ → Type 0
Restarts {Hash} hash old new name =
    (before after : ReplicaValue Hash) × Replaces old new name before after × (meaning after ≡ restarts (meaning before)) × (length (waiting_in after) ≤ 1)
    × (hash_in after ≡ hash)

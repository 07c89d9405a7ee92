-- What each command comes to in a world. Of this project.
use Rattle.std.specs.Prelude.{◌≡◌, ◌⊎◌, codes, ℕ, zero, suc, Bool, true, false, ◌+◌, ◌-◌, nat_le, List, [], ◌∷◌, length, Option, Some, None, slice_get}
use Rattle.std.specs.List.{All}
use Rattle.std.specs.Map.{keys_of}
use Rattle.causal_context.specs.Context.{ContextValue, has}
use Rattle.causal_context.specs.Canonical.{IsCanonical}
use Rattle.dots.specs.Bytes.{MAX_LENGTH}
use Rattle.dots.specs.declared.refusal.Refusal.{Refusal}
use Rattle.dots.specs.declared.refusal.Refusal.TheVariants.{TooLong, UnknownReplica, BadLine}
use Rattle.op_model.specs.Meaning.{MapState, Stands, StandsWithin, HoldsField, HoldsKey}
use Rattle.op_model.specs.Place.{Place, place_of, plain}
use Rattle.prefix_digest.specs.MapOf.{IsMapOf}
use Rattle.prefix_digest.specs.Page.{digest_at}
use Rattle.sync_model.specs.Differ.{Held}
use Rattle.replica_core.specs.Reading.{Lists}
use Rattle.replica_model.specs.Crashing.{Occurrence, Saves, Crashes}
use Rattle.replica_model.specs.Step.{Answer}
use Rattle.replica_model.specs.Step as step
use Rattle.replica_model.specs.World.{World, Event, is_node, nothing, Happens, RefusesEvent, Runs}
use Rattle.replica_model.specs.World as world
use Rattle.replica_world.specs.Held.{occurrence}
use Rattle.trace_words.specs.Command.{CommandValue, Node, Put, Get, Flush, Deliver, Sync, Retry, Abandon, Remove}
use Rattle.trace_words.specs.Command.{RemoveField, Clear, Fields, Show, Size, Context, Pin, Digest, Save, Crash, Look}
use Rattle.trace_words.specs.Text.{values_text, fields_text, map_text, size_text, context_text, digest_text, pin_text}
use Rattle.trace_world.specs.Told.{happened_text}

-- a command is refused and changes nothing; or is done: its text, and what occurred, if something did; or pins what a replica holds: its text, and
-- whose it is
pub data CommandOutcome : Type 0 where
  Refused : Refusal → CommandOutcome
  Done : List ℕ → List Occurrence → CommandOutcome
  Pinned : List ℕ → ℕ → CommandOutcome

-- a pin: whose it is, and the events before it
pub record PinValue : Type 0 where
  pub name : ℕ
  pub events : List Event

-- ---- what is read of a replica that holds this

-- the values at a place
abbrev pub ReadsValues : Place → MapState → CommandOutcome → Type 0
ReadsValues place live outcome = (found : List (List ℕ)) × Lists (Stands live place) found × (outcome ≡ Done (values_text found) [])

-- the fields of a key, with the values at each
abbrev pub ReadsFields : List ℕ → MapState → CommandOutcome → Type 0
ReadsFields key live outcome =
    (entries : List (List ℕ × List (List ℕ))) × Lists (HoldsField live key) (keys_of entries)
    × All (λ e. Lists (Stands live (place_of key e.0)) e.1) entries × (outcome ≡ Done (fields_text entries) [])

-- all keys, with the values at each over all its fields
abbrev pub ReadsKeys : MapState → CommandOutcome → Type 0
ReadsKeys live outcome =
    (entries : List (List ℕ × List (List ℕ))) × Lists (HoldsKey live) (keys_of entries)
    × All (λ e. Lists (StandsWithin live e.0) e.1) entries × (outcome ≡ Done (map_text entries) [])

-- the number of keys
abbrev pub ReadsSize : MapState → CommandOutcome → Type 0
ReadsSize live outcome = (found : List (List ℕ)) × Lists (HoldsKey live) found × (outcome ≡ Done (size_text (length found)) [])

-- the known dots, as a version vector and a cloud
abbrev pub ReadsContext : MapState → CommandOutcome → Type 0
ReadsContext live outcome = (context : ContextValue) × IsCanonical context × (has context ≡ live.has)
    × (outcome ≡ Done (context_text context.vector context.cloud) [])

-- the root digest of the map
abbrev pub ReadsDigest : (List ℕ → ℕ) → MapState → CommandOutcome → Type 0
ReadsDigest hash_of live outcome = (map : Held) × IsMapOf map live × (outcome ≡ Done (digest_text (digest_at hash_of map [])) [])

-- ---- what a command comes to

-- at a replica that is there; else it is unknown
abbrev pub at_replica : World → ℕ → (CommandOutcome → Type 0) → CommandOutcome → Type 0
at_replica w name Comes outcome = ((is_node w name ≡ false) × (outcome ≡ Refused UnknownReplica)) ⊎ ((is_node w name ≡ true) × Comes outcome)

-- with a key, field or value of at most so many bytes; else it is too long
abbrev pub with_bytes : List ℕ → (CommandOutcome → Type 0) → CommandOutcome → Type 0
with_bytes bytes Comes outcome = ((nat_le (length bytes) MAX_LENGTH ≡ false) × (outcome ≡ Refused TooLong))
    ⊎ ((nat_le (length bytes) MAX_LENGTH ≡ true) × Comes outcome)

-- the pins are numbered from 1 on
abbrev pub pin_at : List PinValue → ℕ → Option PinValue
pin_at pins zero = None
pin_at pins (suc n) = slice_get pins n

-- an event occurs that led from the first world to the second: its replica is saved with it, before its messages go out, or it is not
abbrev pub occurs : Event → Answer → World → World → Occurrence
occurs e answer w v = occurrence (record { event = e; answer = answer; sent = length v.messages - length w.messages })

module _ (hash_of : List ℕ → ℕ) where
  -- an event happens, or is refused
  abbrev pub IsEvent : World → Event → CommandOutcome → Type 0
  IsEvent w e outcome =
      ((answer : Answer) × (v : World) × Happens hash_of w e answer v × (outcome ≡ Done (happened_text e answer w v) (occurs e answer w v ∷ [])))
      ⊎ ((refusal : Refusal) × RefusesEvent w e refusal × (outcome ≡ Refused refusal))

  -- a call of a replica
  abbrev pub IsCall : World → ℕ → step.Call → CommandOutcome → Type 0
  IsCall w name call outcome = IsEvent w (world.At name call) outcome

  -- the values that a key shows in a pin, as a get of the key reads them. A pin that was never made is no word of the language
  abbrev pub LooksAt : Option PinValue → List ℕ → CommandOutcome → Type 0
  LooksAt None key outcome = outcome ≡ Refused BadLine
  LooksAt (Some pin) key outcome =
      with_bytes key (λ o. (w : World) × Runs hash_of nothing pin.events w × ReadsValues (plain key) (w.replica pin.name).live o) outcome

  -- what a command comes to in this world, after these pins
  abbrev pub Comes : World → List PinValue → CommandValue → CommandOutcome → Type 0
  Comes w pins (Node name) outcome = IsEvent w (world.Node name) outcome
  Comes w pins (Put name key field value) outcome =
      at_replica w name (with_bytes key (with_bytes field (with_bytes value (IsCall w name (step.Put (place_of key field) value))))) outcome
  Comes w pins (Get name key field) outcome = at_replica w name
      (with_bytes key (with_bytes field (ReadsValues (place_of key field) (w.replica name).live))) outcome
  Comes w pins (Flush name) outcome = IsCall w name step.Flush outcome
  Comes w pins (Deliver number name) outcome = IsEvent w (world.Deliver number name) outcome
  Comes w pins (Sync name peer) outcome = IsCall w name (step.Ask peer) outcome
  Comes w pins (Retry name number) outcome = IsCall w name (step.Retry number) outcome
  Comes w pins (Abandon name number) outcome = IsCall w name (step.Abandon number) outcome
  Comes w pins (Remove name key) outcome = at_replica w name (with_bytes key (IsCall w name (step.Remove key))) outcome
  Comes w pins (RemoveField name key field) outcome =
      at_replica w name (with_bytes key (with_bytes field (IsCall w name (step.RemoveField (place_of key field))))) outcome
  Comes w pins (Clear name) outcome = IsCall w name step.Clear outcome
  Comes w pins (Fields name key) outcome = at_replica w name (with_bytes key (ReadsFields key (w.replica name).live)) outcome
  Comes w pins (Show name) outcome = at_replica w name (ReadsKeys (w.replica name).live) outcome
  Comes w pins (Size name) outcome = at_replica w name (ReadsSize (w.replica name).live) outcome
  Comes w pins (Context name) outcome = at_replica w name (ReadsContext (w.replica name).live) outcome
  Comes w pins (Digest name) outcome = at_replica w name (ReadsDigest hash_of (w.replica name).live) outcome
  Comes w pins (Save name) outcome = at_replica w name (λ o. o ≡ Done (codes "ok") (Saves name ∷ [])) outcome
  Comes w pins (Crash name) outcome = at_replica w name (λ o. o ≡ Done (codes "ok") (Crashes name ∷ [])) outcome
  Comes w pins (Pin name) outcome = at_replica w name (λ o. o ≡ Pinned (pin_text (length pins + 1)) name) outcome
  Comes w pins (Look pin key) outcome = LooksAt (pin_at pins pin) key outcome

-- whether a command speaks of the replicas alone, and of no pin
abbrev pub is_at_world : CommandValue → Bool
is_at_world (Pin name) = false
is_at_world (Look pin key) = false
is_at_world command = true

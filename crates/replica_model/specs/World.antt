-- Worlds of replicas that write, send, deliver and synchronise, told two ways side by side: by the replicas themselves and the messages between
-- them, which is what runs, and by the sets of operations that these stand for. A delta adds what it stands for; which set any other delivery adds
-- follows the answer that the replica gave. Of this project; after the delta-interval anti-entropy of Almeida, Shoker and Baquero, "Delta State Replicated
-- Data Types" (2018).
--
-- A lost message is one that is never delivered, a repeated one is delivered again.
use Rattle.std.specs.Prelude.{◌≡◌, ◌⊎◌, ℕ, zero, suc, Bool, true, false, ◌==◌, List, [], ◌∷◌, ◌++◌, map, Option, Some, None, cond}
use Rattle.std.specs.List.{Contains, slice_get}
use Rattle.std.specs.FinMap as finite
use Rattle.dots.specs.declared.refusal.Refusal.{Refusal}
use Rattle.dots.specs.declared.refusal.Refusal.TheVariants.{NameTaken, UnknownReplica, UnknownMessage}
use Rattle.op_model.specs.Operation.{Operation}
use Rattle.op_model.specs.World.{is_among}
use Rattle.op_model.specs.World as sets
use Rattle.wire_form.specs.Sent.{SentValue}
use Rattle.wire_form.specs.Session.{SessionValue, same_session}
use Rattle.sync_model.specs.Differ.{Held}
use Rattle.sync_model.specs.Laws.{Taking, NoClash}
use Rattle.replica_model.specs.Mail.{Mail, Delta, Hello, Opening, Ask, Page, Gone}
use Rattle.replica_model.specs.Replica.{Replica, Open, Kept, fresh, open_at, kept_at}
use Rattle.replica_model.specs.Delivery.{Outcome, Sent, Done}
use Rattle.replica_model.specs.Step.{Call, Put, Remove, RemoveField, Clear, Flush, Retry, Abandon, Restart, Do, Take, Answer, Nothing, Came, IsStep, Refuses}
use Rattle.replica_model.specs.Step as call

-- what a snapshot was taken of: the operations that the replica had seen, and its map
pub record Snapshot : Type 0 where
  pub seen : List Operation
  pub map : Held

-- a message, and what it stands for: a delta for the operations that it carries, an opening for the snapshot that it opens
pub record Message : Type 0 where
  pub mail : Mail
  pub of : Snapshot

-- what a session met that ended: the maps of its asker and of its answerer, and the pages taken
pub record Met : Type 0 where
  pub own : Held
  pub theirs : Held
  pub takings : List Taking

pub record World : Type 0 where
  pub nodes : List ℕ  -- the names of the replicas that are there
  pub replica : ℕ → Replica  -- by name
  pub messages : List Message  -- from message 1 on
  pub seen : ℕ → List Operation  -- by name, what the replica has seen
  pub outgoing : ℕ → List Operation  -- by name, what it made since it last sent
  pub made : List Operation  -- all operations that were ever made
  pub kept : SessionValue → List Operation  -- what its answerer had seen when it kept the snapshot
  pub accepted : SessionValue → Snapshot  -- that of the opening that its asker accepted
  pub taken : SessionValue → List Taking  -- the pages that its asker took, the last first
  pub closed : List Met  -- the sessions that ended with Done

-- a snapshot of nothing
abbrev pub no_snapshot : Snapshot
no_snapshot = record { seen = []; map = finite.empty }

-- the world before any event
abbrev pub nothing : World
nothing = record {
  nodes = [];
  replica = fresh;
  messages = [];
  seen = λ name. [];
  outgoing = λ name. [];
  made = [];
  kept = λ s. [];
  accepted = λ s. no_snapshot;
  taken = λ s. [];
  closed = [];
}

-- what a world is by its sets alone, and the world with other sets beside its replicas and messages: what the sets send is left out, as the replicas send it
abbrev pub sets_of : World → sets.AbstractWorld
sets_of w = record { nodes = w.nodes; seen = w.seen; outgoing = w.outgoing; messages = map (λ m. m.of.seen) w.messages; made = w.made }

abbrev pub with_sets : sets.AbstractWorld → World → World
with_sets s w = record w { nodes = s.nodes; seen = s.seen; outgoing = s.outgoing; made = s.made }

-- whether a replica of the name is there
abbrev pub is_node : World → ℕ → Bool
is_node w name = is_among w.nodes name

-- the message of this number: numbers are from 1 on
abbrev pub message_at : List Message → ℕ → Option Message
message_at ms zero = None
message_at ms (suc n) = slice_get ms n

-- what happens in a world
pub data Event : Type 0 where
  Node : ℕ → Event  -- a replica of this name
  At : ℕ → Call → Event  -- a call of the replica of this name
  Deliver : ℕ → ℕ → Event  -- of a message, at a name

-- ---- how the sets follow

-- a value of a session that changes, and those of all others that stay
abbrev pub changed : {X : Type 0} → (SessionValue → X) → SessionValue → X → SessionValue → X
changed f s x = λ t. cond (same_session t s) x (f t)

-- the sets after an event of the world that they are by themselves, and after a replica learnt of operations
abbrev pub follows : sets.AbstractEvent → World → World
follows e w = with_sets (sets.happens (sets_of w) e) w

abbrev pub learns : ℕ → List Operation → World → World
learns name more w = with_sets (sets.learns name more (sets_of w)) w

-- after a call
abbrev pub calls : ℕ → Call → World → World
calls name (Put place value) w = follows (sets.Put name place value) w
calls name (Remove key) w = follows (sets.Remove name key) w
calls name (RemoveField place) w = follows (sets.RemoveField name place) w
calls name Clear w = follows (sets.Clear name) w
calls name Flush w = follows (sets.Flush name) w
calls name (call.Ask peer) w = w
calls name (Retry number) w = w
calls name (Abandon number) w = w
calls name Restart w = w

-- whether a delivery was answered so
abbrev pub is_sent : Outcome → Bool
is_sent Sent = true
is_sent other = false

abbrev pub is_done : Outcome → Bool
is_done Done = true
is_done other = false

-- a hello that was answered keeps what its answerer has seen, where the session was not kept
abbrev pub first_kept : Option Kept → List Operation → List Operation → List Operation
first_kept None before now = now
first_kept (Some k) before now = before

abbrev pub keeps : ℕ → Replica → SessionValue → World → World
keeps name old s w = record w { kept = changed w.kept s (first_kept (kept_at old.kept s) (w.kept s) (w.seen name)) }

-- an opening that was taken, and the asker goes on
abbrev pub accepts : SessionValue → Snapshot → World → World
accepts s of w = record w { accepted = changed w.accepted s of; taken = changed w.taken s [] }

-- a page that was taken
abbrev pub taking_of : SentValue → Taking
taking_of sent = record { prefix = sent.prefix; page = sent.page; sent = sent.values }

abbrev pub takes_page : SessionValue → SentValue → World → World
takes_page s sent w = record w { taken = changed w.taken s (taking_of sent ∷ w.taken s) }

-- a session that ended: its asker, which held this map when it asked, learns what was seen of the snapshot
abbrev pub own_of : Option Open → Held
own_of None = finite.empty
own_of (Some o) = o.own

abbrev pub ends : ℕ → Held → Snapshot → List Taking → World → World
ends name own of takings w = record (learns name of.seen w) { closed = w.closed ++ record { own = own; theirs = of.map; takings = takings } ∷ [] }

-- after a delivery, by the mail, what it stands for, and the answer
abbrev pub takes : ℕ → Replica → Mail → Snapshot → Outcome → World → World
takes name old (Delta d) of outcome w = learns name of.seen w
takes name old (Hello s seen) of outcome w = cond (is_sent outcome) (keeps name old s w) w
takes name old (Opening s context root) of outcome w =
    cond (is_done outcome) (ends name (own_of (open_at old.sessions s)) of [] w) (cond (is_sent outcome) (accepts s of w) w)
takes name old (Ask s prefix) of outcome w = w
takes name old (Page s sent) of outcome w =
    cond (is_done outcome) (ends name (own_of (open_at old.sessions s)) (w.accepted s) (taking_of sent ∷ w.taken s) w)
    (cond (is_sent outcome) (takes_page s sent w) w)
takes name old (Gone s) of outcome w = w

-- ---- what happens

-- what a message that is sent stands for: a delta for what was to be sent, an opening for the snapshot that is kept
abbrev pub map_of_kept : Option Kept → Held
map_of_kept None = finite.empty
map_of_kept (Some k) = k.map

abbrev pub snapshot_with : List Operation → (SessionValue → List Operation) → List Kept → Mail → Snapshot
snapshot_with group kept ks (Delta d) = record { seen = group; map = finite.empty }
snapshot_with group kept ks (Opening s context root) = record { seen = kept s; map = map_of_kept (kept_at ks s) }
snapshot_with group kept ks other = no_snapshot

abbrev pub sent_as : List Operation → (SessionValue → List Operation) → List Kept → Mail → Message
sent_as group kept ks mail = record { mail = mail; of = snapshot_with group kept ks mail }

-- the world with one replica as it is now and with the messages that it sent, where its sets followed; it was to send these operations
abbrev pub goes : ℕ → Replica → List Mail → List Operation → World → World
goes name new out group w = record w {
  replica = λ n. cond (n == name) new (w.replica n);
  messages = w.messages ++ map (sent_as group w.kept new.kept) out;
}

-- whether the peer of an ask is there
abbrev pub has_peer : World → Call → Bool
has_peer w (call.Ask peer) = is_node w peer
has_peer w other = true

module _ (hash_of : List ℕ → ℕ) where
  -- The old world, the event, its answer, and the new world.
  abbrev pub Happens : World → Event → Answer → World → Type 0
  Happens w (Node name) answer v = (is_node w name ≡ false) × (answer ≡ Nothing) × (v ≡ follows (sets.Node name) w)
  Happens w (At name c) answer v =
      (is_node w name ≡ true) × (has_peer w c ≡ true)
      × ((new : Replica) × (out : List Mail) × IsStep hash_of (w.replica name) (Do c) new answer out
      × (v ≡ goes name new out (w.outgoing name) (calls name c w)))
  Happens w (Deliver number name) answer v =
      (is_node w name ≡ true)
      × ((m : Message) × (message_at w.messages number ≡ Some m)
      × ((new : Replica) × (outcome : Outcome) × (out : List Mail) × (answer ≡ Came outcome) × IsStep hash_of (w.replica name) (Take m.mail) new answer out
      × (v ≡ goes name new out [] (takes name (w.replica name) m.mail m.of outcome w))))

  -- the world after these events, from one on
  abbrev pub Runs : World → List Event → World → Type 0
  Runs w [] v = v ≡ w
  Runs w (e ∷ es) v = (answer : Answer) × (u : World) × Happens w e answer u × Runs u es v

  -- no two different pages and no two different values have one SHA-256, of those that any one session met that ended
  abbrev pub Unclashed : World → Type 0
  Unclashed w = (m : Met) → Contains w.closed m → NoClash hash_of m.own m.theirs m.takings

-- The refusals of an event, want of memory aside.
abbrev pub RefusesEvent : World → Event → Refusal → Type 0
RefusesEvent w (Node name) refusal = (is_node w name ≡ true) × (refusal ≡ NameTaken)
RefusesEvent w (At name c) refusal =
    ((is_node w name ≡ false) × (refusal ≡ UnknownReplica))
    ⊎ ((is_node w name ≡ true) × (((has_peer w c ≡ false) × (refusal ≡ UnknownReplica)) ⊎ ((has_peer w c ≡ true) × Refuses (w.replica name) c refusal)))
RefusesEvent w (Deliver number name) refusal =
    ((is_node w name ≡ false) × (refusal ≡ UnknownReplica))
    ⊎ ((is_node w name ≡ true) × (message_at w.messages number ≡ None) × (refusal ≡ UnknownMessage))

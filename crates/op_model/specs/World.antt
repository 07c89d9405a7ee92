-- Worlds of replicas that write, send and deliver, of this project; after the delta-interval anti-entropy of
-- Almeida, Shoker and Baquero, "Delta State Replicated Data Types" (2018).
--
-- A world is told by sets of operations alone: what each replica has seen, what it has made since it last sent,
-- and what each message carries. A lost message is one that is never delivered, a repeated one is delivered again.
-- Example: after Node 1, Put 1 a x, Flush 1, Node 2, Deliver 1 2 both replicas have seen {1:1 puts x on a}, and
-- message 1 carries it.
use Rattle.std.specs.Prelude.{ℕ, zero, suc, ◌==◌, ◌||◌, List, [], ◌∷◌, ◌++◌, length, fold, slice_index_or, nat_le, ◌≡◌, ◌&&◌, Bool, true, false, Contains}
use Rattle.op_model.specs.Operation.{Write, Operation, Erased, writes, NoReuse, IsPartOf}
use Rattle.op_model.specs.Place.{Place}
use Rattle.op_model.specs.State.{Same}
use Rattle.op_model.specs.Meaning.{MapState, state}
use Rattle.op_model.specs.Made.{put_at, remove_at, remove_field_at, clear_at}

pub record AbstractWorld : Type 0 where
  pub nodes : List ℕ  -- the names of the replicas that are there
  pub seen : ℕ → List Operation  -- by name, what the replica has seen
  pub outgoing : ℕ → List Operation  -- by name, what it made since it last sent (its delta group)
  pub messages : List (List Operation)  -- what each message carries, from message 1 on
  pub made : List Operation  -- all operations that were ever made

-- the world before any event
abbrev pub nothing : AbstractWorld
nothing = record { nodes = []; seen = λ name. []; outgoing = λ name. []; messages = []; made = [] }

-- whether a name is among these
abbrev pub is_among : List ℕ → ℕ → Bool
is_among [] name = false
is_among (n ∷ ns) name = (n == name) || is_among ns name

-- whether a replica of the name is there, and whether a message has the number: what an event asks of the world
abbrev pub is_node : AbstractWorld → ℕ → Bool
is_node w name = is_among w.nodes name

abbrev pub is_message : AbstractWorld → ℕ → Bool
is_message w number = nat_le 1 number && nat_le number (length w.messages)

-- what the message of this number carries: numbers are from 1 on, and one that is not there carries nothing
abbrev pub message : List (List Operation) → ℕ → List Operation
message messages zero = []
message messages (suc n) = slice_index_or messages n []

-- a set that grows, and one that is emptied, at the replica that is meant
abbrev pub grown : Bool → List Operation → List Operation → List Operation
grown true S more = S ++ more
grown false S more = S

abbrev pub emptied : Bool → List Operation → List Operation
emptied true S = []
emptied false S = S

-- at most one message: a group with nothing in it makes none
abbrev pub group_messages : List Operation → List (List Operation)
group_messages [] = []
group_messages (o ∷ S) = (o ∷ S) ∷ []

-- The moves of which all events are made.

-- a replica makes these operations: it has seen them, and is to send them
abbrev pub makes : ℕ → List Operation → AbstractWorld → AbstractWorld
makes name more w = record w {
  seen = λ n. grown (n == name) (w.seen n) more;
  outgoing = λ n. grown (n == name) (w.outgoing n) more;
  made = w.made ++ more;
}

-- a replica sends what is to be sent, if anything, in a message of its own
abbrev pub sends : ℕ → AbstractWorld → AbstractWorld
sends name w = record w {
  outgoing = λ n. emptied (n == name) (w.outgoing n);
  messages = w.messages ++ group_messages (w.outgoing name);
}

-- a replica learns of these operations
abbrev pub learns : ℕ → List Operation → AbstractWorld → AbstractWorld
learns name more w = record w { seen = λ n. grown (n == name) (w.seen n) more }

-- the events of a world
pub data AbstractEvent : Type 0 where
  Node : ℕ → AbstractEvent  -- a replica of this name
  Put : ℕ → Place → List ℕ → AbstractEvent  -- at a name, a place and a value; a put that names no field is one at the empty field
  Remove : ℕ → List ℕ → AbstractEvent  -- at a name, a key with all its fields
  RemoveField : ℕ → Place → AbstractEvent  -- at a name, a place
  Clear : ℕ → AbstractEvent  -- at a name
  Flush : ℕ → AbstractEvent  -- at a name: send what is to be sent
  Deliver : ℕ → ℕ → AbstractEvent  -- of a message, at a name

-- the world after an event
abbrev pub happens : AbstractWorld → AbstractEvent → AbstractWorld
happens w (Node name) = record w { nodes = w.nodes ++ name ∷ [] }
happens w (Put name place value) = makes name (put_at (w.seen name) name place value) w
happens w (Remove name key) = makes name (remove_at (w.seen name) key) w
happens w (RemoveField name place) = makes name (remove_field_at (w.seen name) place) w
happens w (Clear name) = makes name (clear_at (w.seen name)) w
happens w (Flush name) = sends name w
happens w (Deliver number name) = learns name (message w.messages number) w

-- the world after these events, in their order
abbrev pub after : List AbstractEvent → AbstractWorld
after events = fold happens nothing events

-- What holds of a world after any events: whatever was seen, is to be sent or is in a message was made; a replica has
-- seen its own writes; no operation tells of no dot; and no dot was used twice.
pub record IsSound (w : AbstractWorld) : Type 0 where
  pub seen : (name : ℕ) → IsPartOf (w.seen name) w.made
  pub outgoing : (name : ℕ) → IsPartOf (w.outgoing name) w.made
  pub messages : (number : ℕ) → IsPartOf (message w.messages number) w.made
  pub own : (v : Write) → Contains (writes w.made) v → Contains (writes (w.seen v.id.name)) v
  pub told : ¬ (Contains w.made (Erased []))
  pub no_reuse : NoReuse w.made

-- a live pair and a group mean what the replica of this name has seen, and what it is to send
pub record Means (live group : MapState) (w : AbstractWorld) (name : ℕ) : Type 0 where
  pub seen : Same live (state (w.seen name))
  pub outgoing : Same group (state (w.outgoing name))

-- the name of the replica at which an event happens
abbrev pub replica_of : AbstractEvent → ℕ
replica_of (Node name) = name
replica_of (Put name place value) = name
replica_of (Remove name key) = name
replica_of (RemoveField name place) = name
replica_of (Clear name) = name
replica_of (Flush name) = name
replica_of (Deliver number name) = name

-- what a replica has seen and is to send stays as it was
pub record IsUntouched (old new : AbstractWorld) (name : ℕ) : Type 0 where
  pub seen : new.seen name ≡ old.seen name
  pub outgoing : new.outgoing name ≡ old.outgoing name

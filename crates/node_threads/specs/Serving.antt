-- What a client does that serves a post: it takes in what comes, sends what is to be sent for it, and calls nothing else. Of this project.
use Rattle.std.specs.Prelude.{◌≡◌, ◌⊎◌, ℕ, ◌+◌, List, [], ◌∷◌, ◌++◌, length, Some}
use Rattle.std.specs.List.{All}
use mathlib.Core.List.{IsPrefix}
use Rattle.node_threads.specs.declared.deed.Deed.TheVariants.{Deliver}
use Rattle.node_threads.specs.declared.node_event.NodeEvent.{NodeEvent}
use Rattle.node_threads.specs.History.{Replies}
use Rattle.replica_core.specs.Stepping.{mails_of}
use Rattle.replica_model.specs.Replica.{Replica}
use Rattle.replica_model.specs.Step.{Answer}
use Rattle.shared_object.specs.Calling.{HasNotCalled, IsAccepted}
use Rattle.shared_object.specs.History.{Seat, made}
use Rattle.wire_form.specs.Message.{MessageValue, Spells, SpellsNone, addressee_of, message_of}
use Rattle.wire_form.specs.declared.message.Message.{Message}

-- a message was taken in that bytes spell which came in
abbrev pub IsDelivery : {A : Type 0} → (List ℕ → Type 0) → NodeEvent A → Type 0
IsDelivery {A} Comes e = (message : Message A) × (e.deeds ≡ Deliver message ∷ []) × ((bytes : List ℕ) × Comes bytes × Spells bytes (message_of message))

-- The client made these calls since, and each took a message in that came in.
pub record TookIn {A : Type 0} (Comes : List ℕ → Type 0) (old new : Seat (NodeEvent A)) : Type 0 where
  pub seat : new.place ≡ old.place
  pub seen : IsPrefix old.front new.front
  pub calls : (more : List (NodeEvent A)) × (made (λ e. e.place) new ≡ made (λ e. e.place) old ++ more) × All (IsDelivery Comes) more
      × (new.operations ≡ old.operations + length more)

-- The client took in this message, and was answered so, with these messages to be sent, as the replica that the node begins with after a
-- history that begins with all that the client had seen.
abbrev pub Takes : {A : Type 0} → Replica → Message A → Seat (NodeEvent A) → Seat (NodeEvent A) → Answer → List (Message A) → Type 0
Takes {A} first message old new answer replies =
    (history : List (NodeEvent A)) × IsAccepted (λ e. e.place) old new history (record { place = old.place; deeds = Deliver message ∷ [] })
    × Replies first history (Deliver message) answer (mails_of replies)

-- The client took in the message that these bytes spell, and was answered so, with these messages to be sent, as the replica that
-- the node begins with after a history that begins with all that the client had seen.
abbrev pub IsTakenIn : {A : Type 0} → Replica → List ℕ → Seat (NodeEvent A) → Seat (NodeEvent A) → Answer → List (Message A) → Type 0
IsTakenIn {A} first bytes old new answer replies =
    (message : Message A) × (history : List (NodeEvent A)) × Spells bytes (message_of message)
    × IsAccepted (λ e. e.place) old new history (record { place = old.place; deeds = Deliver message ∷ [] })
    × Replies first history (Deliver message) answer (mails_of replies)

-- the bytes can come in by a post, if its states follow on one another so when bytes come in
abbrev pub CanCome : {P : Type 0} → (P → P → List ℕ → Type 0) → List ℕ → Type 0
CanCome {P} Receives bytes = (p : P) × (q : P) × Receives p q bytes

-- A reply went out by a post, if its states follow on one another so when bytes are sent to the replica of a name: bytes that spell it were sent to
-- the replica that it is for.
abbrev pub IsSent : {P : Type 0} → (P → P → ℕ → List ℕ → Type 0) → P → P → MessageValue → Type 0
IsSent Sends p q reply = (name : ℕ) × (bytes : List ℕ) × (addressee_of reply ≡ Some name) × Spells bytes reply × Sends p q name bytes

-- A reply went out by a post, or the post did not send it, or there was no memory for it, and nothing became of the post: the two numbers are those
-- before but for one more.
abbrev pub Goes : {P : Type 0} → (P → P → ℕ → List ℕ → Type 0) → (P → P → Type 0) → P → P → MessageValue → ℕ × ℕ → ℕ × ℕ → Type 0
Goes Sends Rests p q reply before after =
    (IsSent Sends p q reply × (after.0 ≡ before.0) × (after.1 ≡ before.1)) ⊎ ((Rests p q × (after.0 ≡ 1 + before.0) × (after.1 ≡ before.1))
    ⊎ ((q ≡ p) × (after.0 ≡ before.0) × (after.1 ≡ 1 + before.1)))

-- What became of bytes that came in: no message spells them, they were refused, or a message was taken in that they spell, and of the replies to it so many
-- were not sent by the post, and for so many there was no memory.
pub data Turn : Type 0 where
  NoMessage Refused : Turn
  Taken : ℕ → ℕ → Turn

-- of a turn: whether it is of no message, or of what was refused, how many of its replies were not sent, and how many are lost for want of memory
abbrev pub not_messages : Turn → ℕ
not_messages NoMessage = 1
not_messages Refused = 0
not_messages (Taken n m) = 0

abbrev pub refused : Turn → ℕ
refused NoMessage = 0
refused Refused = 1
refused (Taken n m) = 0

abbrev pub unsent : Turn → ℕ
unsent NoMessage = 0
unsent Refused = 0
unsent (Taken n m) = n

abbrev pub lost : Turn → ℕ
lost NoMessage = 0
lost Refused = 0
lost (Taken n m) = m

-- such a number of all together
abbrev pub total : {X : Type 0} → (X → ℕ) → List X → ℕ
total of [] = 0
total of (x ∷ xs) = of x + total of xs

-- A post whose states follow on one another so: when bytes come in, when they are sent to the replica of a name, and when neither is so.
module _ {P A : Type 0} (Receives : P → P → List ℕ → Type 0) (Sends : P → P → ℕ → List ℕ → Type 0) (Rests : P → P → Type 0) where
  -- these replies went out by it, in this order, but for so many that the post did not send, and so many for which there was no memory
  abbrev pub AreSent : P → P → List (Message A) → ℕ → ℕ → Type 0
  AreSent p q [] n m = (q ≡ p) × (n ≡ 0) × (m ≡ 0)
  AreSent p q (reply ∷ replies) n m =
      (mid : P) × (others : ℕ × ℕ) × Goes Sends Rests p mid (message_of reply) others (n, m) × AreSent mid q replies others.0 others.1

  -- the client took in what these bytes spell, and then what is to be sent for it was sent, but for so many replies
  abbrev pub IsAnswered : Replica → List ℕ → P → P → Seat (NodeEvent A) → Seat (NodeEvent A) → ℕ → ℕ → Type 0
  IsAnswered first bytes p q old new n m =
      (answer : Answer) × (replies : List (Message A)) × IsTakenIn first bytes old new answer replies × AreSent p q replies n m

  -- bytes came in by it, and were answered so
  abbrev pub IsTaken : Replica → P → P → Seat (NodeEvent A) → Seat (NodeEvent A) → ℕ → ℕ → Type 0
  IsTaken first p q old new n m = (bytes : List ℕ) × (mid : P) × Receives p mid bytes × IsAnswered first bytes mid q old new n m

  -- such bytes came in by it, and the client called nothing
  abbrev pub IsPassed : (List ℕ → Type 0) → P → P → Seat (NodeEvent A) → Seat (NodeEvent A) → Type 0
  IsPassed Are p q old new = (bytes : List ℕ) × Receives p q bytes × Are bytes × HasNotCalled (λ e. e.place) old new

  -- One after the other, bytes came in, and this became of them. What is sent for one is sent before the next comes in.
  abbrev pub Serves : Replica → P → P → Seat (NodeEvent A) → Seat (NodeEvent A) → List Turn → Type 0
  Serves first p q old new [] = (q ≡ p) × (new ≡ old)
  Serves first p q old new (NoMessage ∷ more) = (mid : P) × (seat : Seat (NodeEvent A)) × IsPassed SpellsNone p mid old seat × Serves first mid q seat new more
  Serves first p q old new (Refused ∷ more) =
      (mid : P) × (seat : Seat (NodeEvent A)) × IsPassed (λ bytes. Unit {0}) p mid old seat × Serves first mid q seat new more
  Serves first p q old new (Taken n m ∷ more) =
      (mid : P) × (seat : Seat (NodeEvent A)) × IsTaken first p mid old seat n m × Serves first mid q seat new more

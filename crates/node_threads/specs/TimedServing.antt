-- What a client does that serves a timed post: it takes in what comes, and each time that is due it has synchronisations send again and sends what was
-- written to all. Of this project; the anti-entropy of Almeida, Shoker and Baquero, "Delta State Replicated Data Types" (2018), sends so.
use Rattle.std.specs.Prelude.{◌≡◌, ◌⊎◌, ℕ, ◌+◌, ◌-◌, ◌^◌, min, List, [], ◌∷◌, ◌++◌, map, Option, Some, None}
use Rattle.replica_core.specs.declared.call.Call.TheVariants as call
use Rattle.node_threads.specs.declared.deed.Deed.TheVariants as deed
use Rattle.node_threads.specs.declared.node_event.NodeEvent.{NodeEvent}
use Rattle.node_threads.specs.declared.resent.Resent.{Resent}
use Rattle.node_threads.specs.declared.timed_served.TimedServed.{TimedServed}
use Rattle.node_threads.specs.History.{IsAfter, Replies}
use Rattle.node_threads.specs.Renewing.{AreSentAgain}
use Rattle.node_threads.specs.Serving.{Serves, Turn, Refused, Taken, lost, not_messages, refused, total, unsent}
use Rattle.replica_core.specs.Carrying.{AreLetters, letter_or_none}
use Rattle.replica_core.specs.declared.letter.Letter.{Letter}
use Rattle.replica_model.specs.Mail.{mail_of}
use Rattle.replica_model.specs.Replica.{Replica}
use Rattle.replica_model.specs.Step.{Nothing, KnowsNone}
use Rattle.shared_object.specs.Calling.{HasNotCalled, IsAccepted}
use Rattle.shared_object.specs.History.{Seat}
use Rattle.wire_form.specs.Message.{MessageValue}

-- A flush after this history gives this letter, if there is one: the delta of what was made since the last one.
abbrev pub FlushesAs : {A : Type 0} → Replica → List (NodeEvent A) → Option (Letter A) → Type 0
FlushesAs first history sent =
    (messages : List MessageValue) × Replies first history (deed.Call call.Flush) Nothing (map mail_of messages) × AreLetters (letter_or_none sent) messages

-- The client flushed, and this letter was to be sent, if there is one, after a history that begins with all that the client had seen.
abbrev pub IsFlush : {A : Type 0} → Replica → Seat (NodeEvent A) → Seat (NodeEvent A) → Option (Letter A) → Type 0
IsFlush {A} first old new sent =
    (history : List (NodeEvent A)) × IsAccepted (λ e. e.place) old new history (record { place = old.place; deeds = deed.Call call.Flush ∷ [] })
    × FlushesAs first history sent

-- A time that was due, at which this became of what was to be sent, and then a time of serving, in which so many messages were delivered and this became of
-- what came in.
pub record Round : Type 0 where
  pub sent : List Turn
  pub delivered : ℕ
  pub served : List Turn

-- what is told of what was sent counts the turns, up to the last number
abbrev pub CountsSent : Resent → List Turn → Type 0
CountsSent told turns =
    (told.refused ≡ min (total refused turns) (2 ^ 64 - 1)) × (told.unsent ≡ min (total unsent turns) (2 ^ 64 - 1))
    × (told.lost ≡ min (total lost turns) (2 ^ 64 - 1))

-- what is told counts a time of serving and the rounds after it, up to the last number
pub record Counts (told : TimedServed) (n : ℕ) (turns : List Turn) (rounds : List Round) : Type 0 where
  pub delivered_is : told.served.delivered ≡ min (n + total (λ r. r.delivered) rounds) (2 ^ 64 - 1)
  pub not_messages_is : told.served.not_messages ≡ min (total not_messages turns + total (λ r. total not_messages r.served) rounds) (2 ^ 64 - 1)
  pub refused_is : told.served.refused ≡ min (total refused turns + total (λ r. total refused r.served) rounds) (2 ^ 64 - 1)
  pub unsent_is : told.served.unsent ≡ min (total unsent turns + total (λ r. total unsent r.served) rounds) (2 ^ 64 - 1)
  pub lost_is : told.served.lost ≡ min (total lost turns + total (λ r. total lost r.served) rounds) (2 ^ 64 - 1)
  pub sent_refused_is : told.sent.refused ≡ min (total (λ r. total refused r.sent) rounds) (2 ^ 64 - 1)
  pub sent_unsent_is : told.sent.unsent ≡ min (total (λ r. total unsent r.sent) rounds) (2 ^ 64 - 1)
  pub sent_lost_is : told.sent.lost ≡ min (total (λ r. total lost r.sent) rounds) (2 ^ 64 - 1)

-- A post whose states follow on one another so: when bytes come in, when they are sent to the replica of a name, when neither is so, when nothing came in
-- until a time was due, when they are sent to all, and when they are not; and when it is over.
module _ {P A : Type 0} (Receives : P → P → List ℕ → Type 0) (Sends : P → P → ℕ → List ℕ → Type 0) (Rests Ends : P → P → Type 0)
    (Spreads : P → P → List ℕ → Type 0) (Misses : P → P → Type 0) (Over : P → Type 0) where
  -- this letter went out to all by it, or not to all
  abbrev pub IsSpread : P → P → Option (Letter A) → ℕ → Type 0
  IsSpread p q None n = (q ≡ p) × (n ≡ 0)
  IsSpread p q (Some letter) n = (Spreads p q letter.bytes.items × (n ≡ 0)) ⊎ (Misses p q × (n ≡ 1))

  -- the client flushed, and then what was to be sent was sent to all, but for so many deltas; or it called nothing, as nothing waited to be sent after all
  -- that it had seen, or as it was refused
  abbrev pub IsFlushed : Replica → P → P → Seat (NodeEvent A) → Seat (NodeEvent A) → List Turn → Type 0
  IsFlushed first p q old new turns =
      ((n : ℕ) × (sent : Option (Letter A)) × (turns ≡ Taken n 0 ∷ []) × IsFlush first old new sent × IsSpread p q sent n)
      ⊎ (((turns ≡ []) × HasNotCalled (λ e. e.place) old new × ((r : Replica) × IsAfter first new.front r × KnowsNone r.group) × (q ≡ p))
      ⊎ ((turns ≡ Refused ∷ []) × HasNotCalled (λ e. e.place) old new × (q ≡ p)))

  -- each synchronisation that was open sent again, or it was not told which are, as there was no memory
  abbrev pub IsAgain : Replica → P → P → Seat (NodeEvent A) → Seat (NodeEvent A) → List Turn → Type 0
  IsAgain first p q old new turns =
      ((seat : Seat (NodeEvent A)) × (r : Replica) × HasNotCalled (λ e. e.place) old seat × IsAfter first seat.front r
      × AreSentAgain Receives Sends Rests first p q seat new (map (λ o. o.session.number) r.sessions) turns)
      ⊎ ((turns ≡ Refused ∷ []) × HasNotCalled (λ e. e.place) old new × (q ≡ p))

  -- both, one after the other
  abbrev pub IsRenewed : Replica → P → P → Seat (NodeEvent A) → Seat (NodeEvent A) → List Turn → Type 0
  IsRenewed first p q old new turns =
      (mid : P) × (seat : Seat (NodeEvent A)) × (again : List Turn) × (flushed : List Turn) × IsAgain first p mid old seat again
      × IsFlushed first mid q seat new flushed × (turns ≡ again ++ flushed)

  -- what came in was served until a time was due, or the post was over, and so many messages were delivered
  abbrev pub IsServed : Replica → P → P → Seat (NodeEvent A) → Seat (NodeEvent A) → ℕ → List Turn → Type 0
  IsServed first p q old new n turns =
      (end : P) × Serves Receives Sends Rests first p end old new turns × Ends end q × (new.operations ≡ old.operations + n)

  -- the post was not over, so that a time was due, and then it was served
  abbrev pub IsRound : Replica → P → P → Seat (NodeEvent A) → Seat (NodeEvent A) → Round → Type 0
  IsRound first p q old new r =
      (¬ Over p) × ((mid : P) × (seat : Seat (NodeEvent A)) × IsRenewed first p mid old seat r.sent
      × IsServed first mid q seat new r.delivered r.served)

  -- such rounds followed on one another
  abbrev pub AreRounds : Replica → P → P → Seat (NodeEvent A) → Seat (NodeEvent A) → List Round → Type 0
  AreRounds first p q old new [] = (q ≡ p) × (new ≡ old)
  AreRounds first p q old new (r ∷ rs) = (mid : P) × (seat : Seat (NodeEvent A)) × IsRound first p mid old seat r × AreRounds first mid q seat new rs

  -- it was served, then there were these rounds, and what is told counts all
  abbrev pub ServesTimed : Replica → P → P → Seat (NodeEvent A) → Seat (NodeEvent A) → TimedServed → Type 0
  ServesTimed first p q old new told =
      (mid : P) × (seat : Seat (NodeEvent A)) × (n : ℕ) × (turns : List Turn) × (rounds : List Round) × IsServed first p mid old seat n turns
      × AreRounds first mid q seat new rounds × Counts told n turns rounds

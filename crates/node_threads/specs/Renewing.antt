-- What a client does that has the open synchronisations of its node send again. Of this project.
use Rattle.std.specs.Prelude.{◌≡◌, ℕ, List, [], ◌∷◌}
use Rattle.replica_core.specs.declared.call.Call.TheVariants as call
use Rattle.node_threads.specs.declared.deed.Deed.TheVariants as deed
use Rattle.node_threads.specs.declared.node_event.NodeEvent.{NodeEvent}
use Rattle.node_threads.specs.History.{Replies}
use Rattle.node_threads.specs.Serving.{AreSent, Turn, NoMessage, Refused, Taken}
use Rattle.replica_core.specs.Stepping.{mails_of}
use Rattle.replica_model.specs.Replica.{Replica}
use Rattle.replica_model.specs.Step.{Answer}
use Rattle.shared_object.specs.Calling.{HasNotCalled, IsAccepted}
use Rattle.shared_object.specs.History.{Seat}
use Rattle.wire_form.specs.declared.message.Message.{Message}

-- The client had the synchronisation of this number send again, and was answered so, with these messages to be sent, as the replica that the
-- node begins with after a history that begins with all that the client had seen.
abbrev pub IsRetried : {A : Type 0} → Replica → ℕ → Seat (NodeEvent A) → Seat (NodeEvent A) → Answer → List (Message A) → Type 0
IsRetried {A} first number old new answer replies =
    (history : List (NodeEvent A)) × IsAccepted (λ e. e.place) old new history (record { place = old.place; deeds = deed.Call (call.Retry number) ∷ [] })
    × Replies first history (deed.Call (call.Retry number)) answer (mails_of replies)

-- A post whose states follow on one another so: when bytes come in, when they are sent to the replica of a name, and when neither is so.
module _ {P A : Type 0} (Receives : P → P → List ℕ → Type 0) (Sends : P → P → ℕ → List ℕ → Type 0) (Rests : P → P → Type 0) where
  -- and these messages were sent, but for so many that the post did not send, and so many for which there was no memory
  abbrev pub IsSentAgain : Replica → ℕ → P → P → Seat (NodeEvent A) → Seat (NodeEvent A) → ℕ → ℕ → Type 0
  IsSentAgain first number p q old new n m =
      (answer : Answer) × (replies : List (Message A)) × IsRetried first number old new answer replies
      × AreSent Receives Sends Rests p q replies n m

  -- one after the other, the synchronisations of these numbers were refused to send again, or did so, but for so many messages
  abbrev pub AreSentAgain : Replica → P → P → Seat (NodeEvent A) → Seat (NodeEvent A) → List ℕ → List Turn → Type 0
  AreSentAgain first p q old new [] [] = (q ≡ p) × (new ≡ old)
  AreSentAgain first p q old new [] (turn ∷ more) = ⊥
  AreSentAgain first p q old new (number ∷ numbers) [] = ⊥
  AreSentAgain first p q old new (number ∷ numbers) (NoMessage ∷ more) = ⊥
  AreSentAgain first p q old new (number ∷ numbers) (Refused ∷ more) =
      (seat : Seat (NodeEvent A)) × HasNotCalled (λ e. e.place) old seat × AreSentAgain first p q seat new numbers more
  AreSentAgain first p q old new (number ∷ numbers) (Taken n m ∷ more) =
      (mid : P) × (seat : Seat (NodeEvent A)) × IsSentAgain first number p mid old seat n m × AreSentAgain first mid q seat new numbers more

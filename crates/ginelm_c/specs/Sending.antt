-- What the calls by which replicas exchange messages make of a handle. Of this project.
use Rattle.std.specs.Prelude.{◌≡◌, ◌⊎◌, ℕ, List, [], ◌∷◌, Option, Some, None}
use Rattle.wire_form.specs.Message.{MessageValue, Spells, session_of}
use Rattle.wire_form.specs.Session.{SessionValue}
use Rattle.hash_path.specs.declared.fnv1a.Fnv1a.{Fnv1a}
use Rattle.op_model.specs.Meaning.{MapState}
use Rattle.replica_model.specs.Mail.{Delta, mail_of}
use Rattle.replica_model.specs.Step.{Do, Take, Retry, Came, KnowsNone}
use Rattle.replica_core.specs.Answered.{outcome_of}
use Rattle.replica_core.specs.Guarding.{HasLost}
use Rattle.replica_core.specs.Bringing.{Brings}
use Rattle.replica_core.specs.Cutting.{IsWithin, SendsOldest}
use Rattle.replica_core.specs.Meaning.{ReplicaValue, hash_in, meaning}
use Rattle.replica_core.specs.Stepping.{Stays}
use Rattle.replica_core.specs.declared.outcome.Outcome.{Outcome}
use Rattle.replica_core.specs.declared.outcome.Outcome.TheVariants.{Joined, Sent, Done, Ignored, Mismatch, Gone}
use Rattle.ginelm_c.specs.declared.held.Held.{Held}
use Rattle.ginelm_c.specs.declared.named.Named.{Named}
use Rattle.ginelm_c.specs.Handling as handling
use Rattle.ginelm_c.specs.Texts.{letters_in}

-- the outcomes by number
abbrev pub number_of : Outcome → ℕ
number_of Joined = 1
number_of Sent = 2
number_of Done = 3
number_of Ignored = 4
number_of Mismatch = 5
number_of Gone = 6

-- a synchronisation by its names
abbrev pub named : Option SessionValue → Named
named None = record { asker = 0; answerer = 0; number = 0 }
named (Some s) = record { asker = s.asker; answerer = s.answerer; number = s.number }

-- The oldest of what waits is sent, and its letter is the text, of at most so many bytes or of one write; where there is none nothing waits, and
-- the replica is as it was.
pub record SentAtMost (x y : Held) (most : ℕ) : Type 0 where
  pub oldest : SendsOldest x.replica y.replica (letters_in y.texts)
  pub within : (to : Option ℕ) (bytes : List ℕ) → letters_in y.texts ≡ (to, bytes) ∷ [] → IsWithin x.replica y.replica most bytes
  pub none : letters_in y.texts ≡ [] → KnowsNone (meaning x.replica).group × Stays x.replica y.replica

-- the replica took the message: what came of it, the synchronisation that it named, and the letters that are the texts
pub record TakesIn (x y : Held) (message : MessageValue) (outcome : ℕ) (session : Named) : Type 0 where
  pub names : session ≡ named (session_of message)
  pub told : Outcome
  pub numbered : outcome ≡ number_of told
  pub sent : handling.Sent x y (Take (mail_of message)) (Came (outcome_of told))

-- the bytes are those of a message that the replica took
abbrev pub Takes : Held → Held → List ℕ → ℕ → Named → Type 0
Takes x y bytes outcome session = (message : MessageValue) × Spells bytes message × TakesIn x y message outcome session

-- the bytes spell a message that knows a write of the replica's name that the replica does not know
abbrev pub TellsLoss : Held → List ℕ → Type 0
TellsLoss x bytes = (message : MessageValue) × Spells bytes message × HasLost (meaning x.replica) (mail_of message)

-- what is to be sent again for the synchronisation of this number
pub record Retries (x y : Held) (number outcome : ℕ) : Type 0 where
  pub told : Outcome
  pub numbered : outcome ≡ number_of told
  pub sent : handling.Sent x y (Do (Retry number)) (Came (outcome_of told))

-- the text spells a delta that brings what the delivery of the message joins in
abbrev pub IsBrought : List ℕ → ReplicaValue Fnv1a → MessageValue → Type 0
IsBrought text r message =
    (d : MapState) × (told : MessageValue) × Spells text told × (mail_of told ≡ Delta d) × Brings (handling.hash_of (hash_in r)) (meaning r) (mail_of message) d

-- the replica is as it was, the bytes spell a message, and there is no text, or one for everyone, which is of what the message brings
pub record TellsBrought (x y : Held) (bytes : List ℕ) : Type 0 where
  pub same : y.replica ≡ x.replica
  pub message : MessageValue
  pub spelled : Spells bytes message
  pub told : (letters_in y.texts ≡ []) ⊎ ((text : List ℕ) × (letters_in y.texts ≡ (None, text) ∷ []) × IsBrought text x.replica message)

-- The steps of a replica: what each call makes of it, in the words of the model. Of this project.
use Rattle.std.specs.Prelude.{◌≡◌, ◌⊎◌, ℕ, List, [], ◌∷◌, map, Option, Some, None}
use Rattle.dots.specs.declared.refusal.Refusal.{Refusal}
use Rattle.dots.specs.declared.refusal.Refusal.TheVariants.{OutOfMemory}
use Rattle.wire_form.specs.declared.message.Message.{Message}
use Rattle.wire_form.specs.Message.{MessageValue, message_of}
use Rattle.replica_model.specs.Mail.{Mail, mail_of}
use Rattle.replica_model.specs.Replica.{Replica}
use Rattle.replica_model.specs.Step.{Act, Call, Answer, IsStep, Refuses}
use Rattle.replica_alone.specs.Waiting.{Waits}
use Rattle.replica_core.specs.Meaning.{ReplicaValue, hash_in, meaning, waiting_in}

-- the messages, by what they mean
abbrev pub mails_of : {A : Type 0} → List (Message A) → List Mail
mails_of messages = map (λ m. mail_of (message_of m)) messages

abbrev pub message_or_none : {A : Type 0} → Option (Message A) → List MessageValue
message_or_none None = []
message_or_none (Some m) = message_of m ∷ []

abbrev pub mail_or_none : {A : Type 0} → Option (Message A) → List Mail
mail_or_none None = []
mail_or_none (Some m) = mail_of (message_of m) ∷ []

-- the model does not refuse the call
abbrev pub RefusesNothing : Replica → Call → Type 0
RefusesNothing old call = (refusal : Refusal) → ¬ Refuses old call refusal

-- told before a call is made: the refusal that it meets whatever memory there is, or that it meets none
abbrev pub Foretells : Replica → Call → Option Refusal → Type 0
Foretells old call None = RefusesNothing old call
Foretells old call (Some refusal) = Refuses old call refusal

module _ {Hash : Type 0} where
  -- the act makes the second replica of the first, is answered this, and sends these; its deltas wait as the act has them wait, and the hash of the
  -- keys' paths stays
  pub record Steps (hash_of : Hash → List ℕ → ℕ) (old new : ReplicaValue Hash) (act : Act) (answer : Answer) (out : List Mail) : Type 0 where
    pub step : IsStep (hash_of (hash_in old)) (meaning old) act (meaning new) answer out
    pub waits : Waits (meaning old) act (waiting_in old) (waiting_in new)
    pub hash : hash_in new ≡ hash_in old

  -- nothing changed
  pub record Stays (old new : ReplicaValue Hash) : Type 0 where
    pub same : meaning new ≡ meaning old
    pub waiting : waiting_in new ≡ waiting_in old
    pub hash : hash_in new ≡ hash_in old

  -- a call is refused as the model refuses it, and for want of memory only where that does not
  abbrev pub IsRefused : ReplicaValue Hash → Call → Refusal → Type 0
  IsRefused old call refusal = ((refusal ≡ OutOfMemory) × RefusesNothing (meaning old) call) ⊎ Refuses (meaning old) call refusal

-- When a message is not taken in. Of this project.
use Rattle.std.specs.Prelude.{◌≡◌, ◌⊎◌, ℕ, List}
use Rattle.dots.specs.declared.refusal.Refusal.TheVariants.{OutOfMemory, NotAMessage}
use Rattle.wire_form.specs.Message.{MessageValue, Spells, SpellsNone}
use Rattle.replica_model.specs.Mail.{mail_of}
use Rattle.replica_model.specs.Replica.{Replica}
use Rattle.replica_core.specs.Guarding.{HasLost}
use Rattle.ginelm.specs.declared.take_error.TakeError.{TakeError}
use Rattle.ginelm.specs.declared.take_error.TakeError.TheVariants.{LostMemory, Refused}

-- the bytes spell a message that knows a write of the replica's name that the replica does not know
abbrev pub TellsLoss : Replica → List ℕ → Type 0
TellsLoss r bytes = (message : MessageValue) × Spells bytes message × HasLost r (mail_of message)

-- why they were not taken in
abbrev pub IsUntaken : Replica → List ℕ → TakeError → Type 0
IsUntaken r bytes LostMemory = TellsLoss r bytes
IsUntaken r bytes (Refused refusal) = (refusal ≡ OutOfMemory) ⊎ ((refusal ≡ NotAMessage) × SpellsNone bytes)

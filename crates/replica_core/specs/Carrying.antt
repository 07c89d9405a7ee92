-- Letters: messages by their bytes, each with the replica that it is for; and the steps that send them. Of this project.
use Rattle.std.specs.Prelude.{◌≡◌, ℕ, List, [], ◌∷◌, ◌++◌, map, Option, Some, None}
use Rattle.wire_form.specs.Message.{MessageValue, Spells, addressee_of}
use Rattle.replica_model.specs.Mail.{mail_of}
use Rattle.replica_model.specs.Step.{Act, Answer}
use Rattle.replica_core.specs.declared.letter.Letter.{Letter}
use Rattle.replica_core.specs.Meaning.{ReplicaValue}
use Rattle.replica_core.specs.Stepping.{Steps}

module _ {A : Type 0} where
  -- whom it is for, and its bytes, wherever they lie in memory
  abbrev pub letter_of : Letter A → Option ℕ × List ℕ
  letter_of l = (l.to, l.bytes.items)

  abbrev pub letters_of : List (Letter A) → List (Option ℕ × List ℕ)
  letters_of ls = map letter_of ls

  abbrev pub letter_or_none : Option (Letter A) → List (Option ℕ × List ℕ)
  letter_or_none None = []
  letter_or_none (Some l) = letter_of l ∷ []

-- the bytes spell the message, and the letter is for whom the message is for
pub record IsLetter (letter : Option ℕ × List ℕ) (message : MessageValue) : Type 0 where
  pub to : letter.0 ≡ addressee_of message
  pub spelled : Spells letter.1 message

-- each is a letter of the message at its place
abbrev pub AreLetters : List (Option ℕ × List ℕ) → List MessageValue → Type 0
AreLetters [] [] = Unit {0}
AreLetters [] (m ∷ ms) = ⊥
AreLetters (l ∷ ls) [] = ⊥
AreLetters (l ∷ ls) (m ∷ ms) = IsLetter l m × AreLetters ls ms

-- the second list is the first with the letters of these messages behind it
abbrev pub Gains : List (Option ℕ × List ℕ) → List (Option ℕ × List ℕ) → List MessageValue → Type 0
Gains old new messages = (more : List (Option ℕ × List ℕ)) × (new ≡ old ++ more) × AreLetters more messages

-- the act makes the second replica of the first and is answered this, and the letters are those of just the messages that it sends, in their order
pub record Sends {Hash : Type 0} (hash_of : Hash → List ℕ → ℕ) (old new : ReplicaValue Hash) (act : Act) (answer : Answer)
    (letters : List (Option ℕ × List ℕ)) : Type 0 where
  pub messages : List MessageValue
  pub steps : Steps hash_of old new act answer (map mail_of messages)
  pub letters_are : AreLetters letters messages

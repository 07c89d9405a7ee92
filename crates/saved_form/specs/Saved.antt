-- What is kept of a replica over a restart, and its bytes. Of this project.
--
-- The version byte 03 and the kind byte 02, the name, the number of the last own synchronisation, the number of bytes of the message that
-- follows, and two deltas as they stand in messages: what the replica holds, and what it made since it last sent.
use Rattle.std.specs.Prelude.{◌≡◌, ℕ, List, ◌∷◌, ◌++◌, length}
use Rattle.causal_join.specs.OrMap.{OrMapValue}
use Rattle.wire_form.specs.Spelling.{number, IsNumber, pair, IsPair}
use Rattle.wire_form.specs.Parts.{IsName}
use Rattle.wire_form.specs.Message.{MessageValue, Spells, SpellsDelta, VERSION}
use Rattle.saved_form.specs.declared.saved.Saved.{Saved}

-- what was saved: the name, the number of the last own synchronisation, what the replica holds, and what it is to send
pub record SavedValue : Type 0 where
  pub name : ℕ
  pub opened : ℕ
  pub live : OrMapValue
  pub group : OrMapValue

-- wherever it lies in memory
abbrev pub saved_value : {A : Type 0} → Saved A → SavedValue
saved_value saved = record { name = saved.name; opened = saved.opened; live = saved.live; group = saved.group }

-- bytes behind their number
abbrev pub sized : List ℕ → List ℕ
sized bytes = number (length bytes) ++ bytes

abbrev pub IsSized : List ℕ → Type 0
IsSized bytes = IsNumber (length bytes)

-- what stands before the second delta: the name, the number, and the first delta behind the number of its bytes
abbrev pub head : ℕ × (ℕ × List ℕ) → List ℕ
head = pair number (pair number sized)

abbrev pub IsHead : ℕ × (ℕ × List ℕ) → Type 0
IsHead = IsPair IsName (IsPair IsNumber IsSized)

-- the kind
abbrev pub SAVED : ℕ
SAVED = 2

-- the bytes spell what was saved
pub record SpellsSaved (bytes : List ℕ) (saved : SavedValue) : Type 0 where
  pub first : List ℕ  -- the deltas as messages
  pub second : List ℕ
  pub fits : IsHead (saved.name, (saved.opened, first))
  pub live : SpellsDelta first saved.live
  pub group : SpellsDelta second saved.group
  pub spelling : bytes ≡ VERSION ∷ SAVED ∷ head (saved.name, (saved.opened, first)) ++ second

-- the bytes spell nothing that was saved
abbrev pub SpellsNothingSaved : List ℕ → Type 0
SpellsNothingSaved bytes = (saved : SavedValue) → SpellsSaved bytes saved → ⊥

-- ---- the laws of the format

-- bytes spell one thing at most that was saved
abbrev pub OneSave : Type 0
OneSave = (bytes : List ℕ) (s t : SavedValue) → SpellsSaved bytes s → SpellsSaved bytes t → s ≡ t

-- it has one spelling
abbrev pub OneSpelling : Type 0
OneSpelling = (a b : List ℕ) (s : SavedValue) → SpellsSaved a s → SpellsSaved b s → a ≡ b

-- and no message is spelled so
abbrev pub NoMessage : Type 0
NoMessage = (bytes : List ℕ) (s : SavedValue) (m : MessageValue) → SpellsSaved bytes s → Spells bytes m → ⊥

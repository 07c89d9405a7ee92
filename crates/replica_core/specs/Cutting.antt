-- What a replica sends of the deltas that wait, where a message may have so many bytes at most. Of this project.
use Rattle.std.specs.Prelude.{◌≡◌, ◌⊎◌, ◌+◌, ◌*◌, ◌≤◌, ◌<◌, ℕ, List, drop, length, map, take, Option}
use Rattle.causal_join.specs.OrMap.{OrMapValue, or_map_state}
use Rattle.delta_ops.specs.Group.{group_state}
use Rattle.op_model.specs.State.{Same}
use Rattle.wire_form.specs.Message.{MessageValue, Delta}
use Rattle.replica_model.specs.Mail.{mail_of}
use Rattle.replica_model.specs.Step.{KnowsNone}
use Rattle.replica_alone.specs.Waiting.{IsCut, all_of}
use Rattle.replica_core.specs.Carrying.{AreLetters, IsLetter}
use Rattle.replica_core.specs.Meaning.{ReplicaValue, hash_in, meaning, waiting_in}

-- the letter is that of so many of the oldest deltas, joined
pub record IsFront (deltas : List OrMapValue) (number : ℕ) (letter : Option ℕ × List ℕ) : Type 0 where
  pub whole : OrMapValue
  pub same : Same (or_map_state whole) (group_state (take number deltas))
  pub is_letter : IsLetter letter (Delta whole)

-- All go, or else a letter of twice as many, or of all where these are fewer, is longer than that.
abbrev pub IsMost : List OrMapValue → ℕ → ℕ → Type 0
IsMost deltas number most =
    (number ≡ length deltas)
    ⊎ ((more : ℕ) × (letter : Option ℕ × List ℕ) × ((more ≡ number * 2) ⊎ (more ≡ length deltas)) × IsFront deltas more letter × (most < length letter.1))

module _ {Hash : Type 0} where
  -- The oldest of the deltas that wait are sent in one letter, where they know a dot, and the others wait on; all else stays.
  pub record SendsOldest (old new : ReplicaValue Hash) (letters : List (Option ℕ × List ℕ)) : Type 0 where
    pub messages : List MessageValue
    pub cut : IsCut (meaning old) (waiting_in old) (meaning new) (waiting_in new) (map mail_of messages)
    pub letters_are : AreLetters letters messages
    pub hash : hash_in new ≡ hash_in old

  -- The letter has at most so many bytes, or else it is that of the first delta that knows a dot, which may be behind some that know none.
  abbrev pub IsWithin : ReplicaValue Hash → ReplicaValue Hash → ℕ → List ℕ → Type 0
  IsWithin old new most bytes =
      (length bytes ≤ most) ⊎ ((n : ℕ) × (waiting_in new ≡ drop (n + 1) (waiting_in old)) × KnowsNone (all_of (take n (waiting_in old))))

  -- so many of the deltas go, and more do not fit
  abbrev pub SendsMost : ReplicaValue Hash → ReplicaValue Hash → ℕ → Type 0
  SendsMost old new most = (number : ℕ) × (waiting_in new ≡ drop number (waiting_in old)) × IsMost old.group number most

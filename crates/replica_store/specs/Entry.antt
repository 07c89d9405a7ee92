-- What is kept of a replica, string by string: a kind byte, and behind it a name, the number of a session, or a delta. Of this project.
use Rattle.std.specs.Prelude.{◌≡◌, ℕ, List, ◌∷◌, length}
use Rattle.std.specs.Int.{w64, from_be_bytes}
use Rattle.causal_join.specs.OrMap.{OrMapValue, or_map_state}
use Rattle.op_model.specs.Meaning.{MapState}
use Rattle.wire_form.specs.Message.{Spells, Delta}
use Rattle.replica_store.specs.declared.entry.Entry as read
use Rattle.replica_store.specs.declared.entry.Entry.TheVariants as variants

-- the replica's name, the number of an own session that it opened, and a delta that it made or took in
pub data Entry : Type 0 where
  Named : ℕ → Entry
  Opened : ℕ → Entry
  Changed : MapState → Entry

-- the letters N, O and D
abbrev pub NAMED : ℕ
NAMED = 78

abbrev pub OPENED : ℕ
OPENED = 79

abbrev pub CHANGED : ℕ
CHANGED = 68

-- behind the kind stands the number, big-endian in eight bytes
pub record SaysNumber (kind : ℕ) (string : List ℕ) (n : ℕ) : Type 0 where
  pub bytes : List ℕ
  pub long : length bytes ≡ 8
  pub number : from_be_bytes w64 bytes ≡ n
  pub is : string ≡ kind ∷ bytes

-- behind the kind stands the delta, as on the wire
pub record SaysDelta (string : List ℕ) (delta : MapState) : Type 0 where
  pub bytes : List ℕ
  pub pair : OrMapValue
  pub spelled : Spells bytes (Delta pair)
  pub means : or_map_state pair ≡ delta
  pub is : string ≡ CHANGED ∷ bytes

abbrev pub IsEntry : List ℕ → Entry → Type 0
IsEntry string (Named name) = SaysNumber NAMED string name
IsEntry string (Opened number) = SaysNumber OPENED string number
IsEntry string (Changed delta) = SaysDelta string delta

-- what was read of a string: of a delta, its bytes
abbrev pub SaysRead : List ℕ → read.Entry → Type 0
SaysRead string (variants.Named name) = SaysNumber NAMED string name
SaysRead string (variants.Opened number) = SaysNumber OPENED string number
SaysRead string (variants.Changed bytes) = string ≡ CHANGED ∷ bytes.now

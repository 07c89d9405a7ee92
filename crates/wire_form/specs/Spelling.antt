-- Spellings in general: a field of a message is spelled by bytes, and what begins with a spelling is read off. Of this
-- project.
use Rattle.std.specs.Prelude.{◌≡◌, ℕ, ◌<◌, ◌^◌, List, [], ◌∷◌, ◌++◌, length}
use Rattle.std.specs.Int.{w64, to_be_bytes}
use Rattle.std.specs.List.{flat_map, AllByRecursion}

-- a number, big-endian in eight bytes
unfoldable pub number : ℕ → List ℕ
number n = to_be_bytes w64 n

-- which numbers have a spelling
abbrev pub IsNumber : ℕ → Type 0
IsNumber n = n < 2 ^ 64

-- a byte, as it is
abbrev pub byte : ℕ → List ℕ
byte n = n ∷ []

abbrev pub IsByte : ℕ → Type 0
IsByte n = n < 256

module _ {X Y : Type 0} where
  -- one field, and another right after it
  abbrev pub pair : (X → List ℕ) → (Y → List ℕ) → X × Y → List ℕ
  pair first second fields = first fields.0 ++ second fields.1

  abbrev pub IsPair : (X → Type 0) → (Y → Type 0) → X × Y → Type 0
  IsPair First Second fields = First fields.0 × Second fields.1

module _ {X : Type 0} where
  -- how many items, and then each of them
  abbrev pub counted : (X → List ℕ) → List X → List ℕ
  counted item items = number (length items) ++ flat_map item items

  abbrev pub AreCounted : (X → Type 0) → List X → Type 0
  AreCounted Item items = IsNumber (length items) × AllByRecursion Item items

-- The bytes are the spelling of the value and then the rest. `spell` gives the spelling of each value, and `Fits` says
-- which values have one.
pub record Begins {V : Type 0} (spell : V → List ℕ) (Fits : V → Type 0) (bytes : List ℕ) (value : V) (rest : List ℕ) : Type 0 where
  pub fits : Fits value
  pub parts : bytes ≡ spell value ++ rest

-- the bytes are the spelling of the value, and nothing more
pub record IsWhole {V : Type 0} (spell : V → List ℕ) (Fits : V → Type 0) (bytes : List ℕ) (value : V) : Type 0 where
  pub fits : Fits value
  pub spelling : bytes ≡ spell value

-- no spelling stands at the front of the bytes
abbrev pub HasNoSpelling : {V : Type 0} → (V → List ℕ) → (V → Type 0) → List ℕ → Type 0
HasNoSpelling {V} spell Fits bytes = (value : V) (rest : List ℕ) → Begins spell Fits bytes value rest → ⊥

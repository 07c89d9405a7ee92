-- What was read from a reader and written to a writer, where their bytes are known.
use Rattle.std.specs.Prelude.{◌≡◌, ℕ, List, ◌++◌, Option}
use Rattle.std.specs.Io.KnownBytes.{Appends, Consumes}

-- some bytes were read, and the fact holds of them
abbrev pub TakenBytes : Option (List ℕ) → Option (List ℕ) → (List ℕ → Type 0) → Type 0
TakenBytes old new P = (bytes : List ℕ) × Consumes old new bytes × P bytes

-- some text was written, and the fact holds of it
abbrev pub Written : Option (List ℕ) → Option (List ℕ) → (List ℕ → Type 0) → Type 0
Written old new P = (text : List ℕ) × Appends old new text × P text

-- the whole begins with the front
pub record IsFront (front whole : List ℕ) : Type 0 where
  pub rest : List ℕ
  pub joined : whole ≡ front ++ rest

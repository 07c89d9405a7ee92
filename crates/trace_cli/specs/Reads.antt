-- The reads that were made of a watched reader, each beside the writer as it was then. Of this project.
use Rattle.std.specs.Prelude.{◌≡◌, ℕ, List, [], ◌∷◌, ◌++◌, take, Result, Ok, Err}
use Rattle.std_io.specs.declared.io.error.Error.{Error}
use Rattle.trace_cli.specs.declared.watched.Watched.{Watched}

-- one read: the writer that it was made beside, what came of it, and the piece
pub record Reading (W : Type 0) : Type 0 where
  pub beside : Watched W
  pub result : Result ℕ Error
  pub piece : List ℕ

-- the bytes that it gave
abbrev pub bytes_given : Result ℕ Error → List ℕ → List ℕ
bytes_given (Ok count) piece = take count piece
bytes_given (Err e) piece = []

-- and those of all these
abbrev pub all_given : {W : Type 0} → List (Reading W) → List ℕ
all_given [] = []
all_given (r ∷ rs) = bytes_given r.result r.piece ++ all_given rs

-- one after another, these reads and no others led from the first reader to the last
abbrev pub ReadsLead : {R W : Type 0} → (R → R → Watched W → Result ℕ Error → List ℕ → Type 0) → R → List (Reading W) → R → Type 0
ReadsLead gives first [] last = first ≡ last
ReadsLead {R = R} gives first (r ∷ rs) last = (next : R) × gives first next r.beside r.result r.piece × ReadsLead gives next rs last

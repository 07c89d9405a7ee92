-- When the lines of a trace are answered: before more of it is read. Of this project.
use Rattle.std.specs.Prelude.{◌≡◌, ◌<◌, ℕ, true, List, [], ◌∷◌, ◌++◌, length, Option, None, ⊤}
use Rattle.std.specs.Io.KnownBytes.{Appends}
use Rattle.trace_cli.specs.declared.watched.Watched.{Watched}
use Rattle.trace_cli.specs.Reads.{Reading, bytes_given}
use Rattle.trace_cli.specs.Watched.{inner_of, is_flushed}
use Rattle.trace_cli.specs.Lines.{IsWholeLinesOf}
use Rattle.trace_cli.specs.Output.{Given, IsGiven}

-- the whole lines of what was read are given no fault, and their text was written, and nothing else
abbrev pub IsAnswered : Option (List ℕ) → Option (List ℕ) → List ℕ → Type 0
IsAnswered old new read =
    (whole : List ℕ) × IsWholeLinesOf whole read
    × ((given : Given) × IsGiven whole given × Appends old new given.text × (given.fault ≡ None))

-- the same of a watched writer, and all that was written was flushed
abbrev pub AnswersAll : {W : Type 0} → (W → Option (List ℕ)) → Option (List ℕ) → Watched W → List ℕ → Type 0
AnswersAll contents old writer read = (is_flushed writer ≡ true) × IsAnswered old (contents (inner_of writer)) read

-- each read asked for a byte, and was made when the writer had answered all lines whose ends were read before, of which this is the first part
abbrev pub AreInTurn : {W : Type 0} → (W → Option (List ℕ)) → Option (List ℕ) → List ℕ → List (Reading W) → Type 0
AreInTurn contents old read [] = ⊤
AreInTurn contents old read (r ∷ rs) =
    (0 < length r.piece) × AnswersAll contents old r.beside read × AreInTurn contents old (read ++ bytes_given r.result r.piece) rs

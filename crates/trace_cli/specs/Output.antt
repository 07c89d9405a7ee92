-- What a trace is answered, by its bytes alone. Of this project.
--
-- The trace is split into lines; each line is answered from the lines before it; the first fault's line is the last.
use Rattle.std.specs.Prelude.{◌≡◌, ◌⊎◌, ℕ, ◌+◌, true, List, [], ◌∷◌, ◌++◌, Option, Some, None, codes}
use Rattle.std.specs.Fmt.{decimal}
use Rattle.dots.specs.Refusal.{word_of}
use Rattle.dots.specs.declared.refusal.Refusal.{Refusal}
use Rattle.trace_words.specs.Answer.{LineAnswer, Silent, Told, Faulted}
use Rattle.trace_world.specs.Line.{Past, start, Answers}
use Rattle.trace_cli.specs.Streams.{IsFront}
use Rattle.trace_cli.specs.Lines.{lines_of, ends_line}

-- what is written, and the fault that ended the trace, if one did
pub record Given : Type 0 where
  pub text : List ℕ
  pub fault : Option Refusal

-- nothing
abbrev pub nothing_given : Given
nothing_given = record { text = []; fault = None }

-- text in front of what is given
abbrev pub prepend : List ℕ → Given → Given
prepend text given = record { text = text ++ given.text; fault = given.fault }

-- the line that tells a fault: "error line <number>: <word>"
abbrev pub fault_line : ℕ → Refusal → List ℕ
fault_line number refusal = codes "error line " ++ (decimal number ++ (codes ": " ++ (word_of refusal ++ (10 ∷ []))))

-- the text of an answer to the line of this number
abbrev pub answer_text : LineAnswer → ℕ → List ℕ
answer_text Silent number = []
answer_text (Told text) number = text ++ (10 ∷ [])
answer_text (Faulted refusal) number = fault_line number refusal

-- an answer to the line of this number, in front of what is given to the lines after it; after a fault, these are given nothing
abbrev pub GivesFirst : LineAnswer → ℕ → (Given → Type 0) → Given → Type 0
GivesFirst Silent number Later given = Later given
GivesFirst (Told text) number Later given = (later : Given) × Later later × (given ≡ prepend (answer_text (Told text) number) later)
GivesFirst (Faulted refusal) number Later given = given ≡ record { text = answer_text (Faulted refusal) number; fault = Some refusal }

-- what is given to these lines, the first of which has this number, after these lines before them
abbrev pub Gives : Past → ℕ → List (List ℕ) → Given → Type 0
Gives past number [] given = given ≡ nothing_given
Gives past number (line ∷ lines) given =
    (answer : LineAnswer) × (next : Past) × Answers past line answer next × GivesFirst answer number (λ later. Gives next (number + 1) lines later) given

-- what is given to a whole trace
abbrev pub IsGiven : List ℕ → Given → Type 0
IsGiven input given = Gives start 1 (lines_of input) given

-- the text is a front of what is given to some whole lines of these bytes, from the first on, or to all of them
pub record GivesFront (past : Past) (number : ℕ) (bytes text : List ℕ) : Type 0 where
  pub lines : List ℕ
  pub rest : List ℕ
  pub parts : bytes ≡ lines ++ rest
  pub whole : (ends_line lines ≡ true) ⊎ (rest ≡ [])
  pub given : Given
  pub gives : Gives past number (lines_of lines) given
  pub front : IsFront text given.text

-- the same of what was read of a whole trace
abbrev pub IsGivenFront : List ℕ → List ℕ → Type 0
IsGivenFront read text = GivesFront start 1 read text

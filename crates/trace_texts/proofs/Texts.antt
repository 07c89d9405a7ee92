-- Each trace is given a text, line by line.
use Rattle.std.proofs.Common.{ℕ, ◌+◌, List, [], ◌∷◌, Some, refl}
use Rattle.trace_words.specs.Answer.{LineAnswer, Silent, Told, Faulted}
use Rattle.trace_world.specs.Line.{Past, start}
use Rattle.trace_cli.specs.Lines.{lines_of}
use Rattle.trace_cli.specs.Output.{Given, nothing_given, prepend, answer_text, GivesFirst, Gives}
use Rattle.trace_texts.specs.Laws.{IsPast, TracesAreGiven}
use Rattle.trace_texts.proofs.Going.{starts, lines_answered}

first_given : (answer : LineAnswer) (number : ℕ) (Later : Given → Type 0) → (later : Given) × Later later
    → (given : Given) × GivesFirst answer number Later given
first_given Silent number Later later = later
first_given (Told text) number Later (later, is) = (prepend (answer_text (Told text) number) later, (later, is, refl))
first_given (Faulted refusal) number Later later = (record { text = answer_text (Faulted refusal) number; fault = Some refusal }, refl)

lines_given : (past : Past) → IsPast past → (number : ℕ) (lines : List (List ℕ)) → (given : Given) × Gives past number lines given
lines_given past is number [] = (nothing_given, refl)
lines_given past is number (line ∷ lines) =
    let a = lines_answered past is line in
    let given = first_given a.0 number (λ later. Gives a.1 (number + 1) lines later) (lines_given a.1 a.3 (number + 1) lines) in
    (given.0, (a.0, a.1, a.2, given.1))

pub traces_given : TracesAreGiven
traces_given input = lines_given start starts 1 (lines_of input)

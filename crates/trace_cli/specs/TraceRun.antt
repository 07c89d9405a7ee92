-- What a run knows between two bytes: how the answers so far stand to those of the whole trace.
use Rattle.std.specs.Prelude.{◌≡◌, ℕ, true, List, [], ◌++◌, Some}
use Rattle.dots.specs.declared.refusal.Refusal.{Refusal}
use Rattle.trace_cli.specs.Lines.{lines_of, ends_line}
use Rattle.trace_world.specs.Line.{Past, start}
use Rattle.trace_cli.specs.Output.{Given, Gives, prepend}
use Rattle.trace_cli.specs.Streams.{IsFront}
use Rattle.trace_cli.specs.declared.trace_run.TraceRun.{TraceRun}

-- after these lines: the number of the next line, and what of it was read
pub record Point : Type 0 where
  pub past : Past
  pub number : ℕ
  pub line : List ℕ

-- before any byte was read
abbrev pub start_point : Point
start_point = record { past = start; number = 1; line = [] }

abbrev pub point_of : {A : Type 0} → TraceRun A → Point
point_of trace_run = record { past = trace_run.machine; number = trace_run.number; line = trace_run.line.items }

-- what is given to the bytes that come next
abbrev pub GivesAt : Point → List ℕ → Given → Type 0
GivesAt point more given = Gives point.past point.number (lines_of (point.line ++ more)) given

-- From old, the piece leads to new by writing the text: its whole lines are answered, and the rest is kept.
pub record Leads (old : Point) (piece text : List ℕ) (new : Point) : Type 0 where
  pub whole : List ℕ
  pub parts : old.line ++ piece ≡ whole ++ new.line
  pub ends : ends_line whole ≡ true
  pub goes_on : (more : List ℕ) (later : Given) → Gives new.past new.number (lines_of more) later
      → Gives old.past old.number (lines_of (whole ++ more)) (prepend text later)

-- From old, the piece ends the trace with this fault, whatever comes after it.
pub record Stops (old : Point) (piece text : List ℕ) (refusal : Refusal) : Type 0 where
  pub stops : (more : List ℕ) → GivesAt old (piece ++ more) (record { text = text; fault = Some refusal })

-- From old, the text is a front of what is given to some whole lines up to the end of the piece.
pub record IsFrontFrom (old : Point) (piece text : List ℕ) : Type 0 where
  pub lines : List ℕ
  pub rest : List ℕ
  pub parts : old.line ++ piece ≡ lines ++ rest
  pub ends : ends_line lines ≡ true
  pub given : Given
  pub gives : Gives old.past old.number (lines_of lines) given
  pub front : IsFront text given.text

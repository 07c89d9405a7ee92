-- What a line of a trace is answered, after the lines before it. Of this project.
use Rattle.std.specs.Prelude.{◌≡◌, ℕ, List, [], ◌∷◌, ◌++◌, Option, Some, None}
use Rattle.dots.specs.declared.refusal.Refusal.TheVariants.{BadLine}
use Rattle.hash_path.specs.Fnv1a.{fnv1a}
use Rattle.std.specs.List.{fold}
use Rattle.replica_model.specs.World.{World, nothing, Runs}
use Rattle.replica_world.specs.Held.{Held, events_of, after}
use Rattle.trace_words.specs.Answer.{LineAnswer, Silent, Told, refused_as}
use Rattle.trace_words.specs.Command.{CommandValue, command_of}
use Rattle.trace_world.specs.Outcome.{CommandOutcome, Refused, Done, Pinned, PinValue, Comes}

-- the events so far, each of which was accepted and none of which a crash took away, with whether they are saved; and the pins
pub record Past : Type 0 where
  pub held : List Held
  pub pins : List PinValue

-- before any line
abbrev pub start : Past
start = record { held = []; pins = [] }

-- what an outcome is answered
abbrev pub answer_by : CommandOutcome → LineAnswer
answer_by (Done text xs) = Told text
answer_by (Pinned text name) = Told text
answer_by (Refused refusal) = refused_as refusal

-- what there is after an outcome
abbrev pub past_by : Past → CommandOutcome → Past
past_by past (Done text xs) = record past { held = fold after past.held xs }
past_by past (Pinned text name) = record past { pins = past.pins ++ record { name = name; events = events_of past.held } ∷ [] }
past_by past (Refused refusal) = past

-- what a line comes to that has a byte: a command in the world of the events so far, the paths of whose keys are by FNV-1a; or a line that is none
abbrev pub LineComes : Past → Option CommandValue → CommandOutcome → Type 0
LineComes past (Some command) outcome = (w : World) × Runs fnv1a nothing (events_of past.held) w × Comes fnv1a w past.pins command outcome
LineComes past None outcome = outcome ≡ Refused BadLine

-- a line is answered so, and then there is this: an empty one is answered nothing
abbrev pub Answers : Past → List ℕ → LineAnswer → Past → Type 0
Answers past [] answer next = (answer ≡ Silent) × (next ≡ past)
Answers past (byte ∷ bytes) answer next =
    (outcome : CommandOutcome) × LineComes past (command_of (byte ∷ bytes)) outcome × (answer ≡ answer_by outcome) × (next ≡ past_by past outcome)

-- The laws that each trace is given a text. Of this project. A law is proved where a function of src/ names it.
use Rattle.std.specs.Prelude.{◌≡◌, ℕ, List, Contains}
use Rattle.hash_path.specs.Fnv1a.{fnv1a}
use Rattle.replica_model.specs.Crashing.{Occurrence, System, Goes, started}
use Rattle.replica_model.specs.World.{World, Event, nothing, Runs}
use Rattle.replica_world.specs.Held.{held_after}
use Rattle.trace_words.specs.Answer.{LineAnswer}
use Rattle.trace_words.specs.Command.{CommandValue}
use Rattle.trace_world.specs.Line.{Past, Answers}
use Rattle.trace_world.specs.Outcome.{CommandOutcome, PinValue, Comes}
use Rattle.trace_cli.specs.Output.{Given, IsGiven}

-- the events of each pin lead to a world
abbrev pub ArePins : List PinValue → Type 0
ArePins pins = (pin : PinValue) → Contains pins pin → (w : World) × Runs fnv1a nothing pin.events w

-- each command comes to an outcome, in every world that a list of events leads to, after pins whose events lead to worlds
abbrev pub CommandsComeTo : Type 0
CommandsComeTo = (events : List Event) (w : World) → Runs fnv1a nothing events w → (pins : List PinValue) → ArePins pins
    → (command : CommandValue) → (outcome : CommandOutcome) × Comes fnv1a w pins command outcome

-- Pasts that what occurred led to: held is what is left of it, and the events of each pin lead to a world.
pub record IsPast (past : Past) : Type 0 where
  pub occurred : List Occurrence
  pub system : System
  pub goes : Goes fnv1a started occurred system
  pub holds : past.held ≡ held_after occurred
  pub pins : ArePins past.pins

-- after such a past each line is answered, and the past after it is such a one
abbrev pub LinesAreAnswered : Type 0
LinesAreAnswered = (past : Past) → IsPast past → (line : List ℕ) → (answer : LineAnswer) × (next : Past) × Answers past line answer next × IsPast next

-- each trace is given a text
abbrev pub TracesAreGiven : Type 0
TracesAreGiven = (input : List ℕ) → (given : Given) × IsGiven input given

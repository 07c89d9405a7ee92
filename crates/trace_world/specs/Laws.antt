-- The laws of what a line is answered. Of this project. A law is proved where a function of src/ names it.
use Rattle.std.specs.Prelude.{◌≡◌, ℕ, List, [], Some}
use Rattle.hash_path.specs.Fnv1a.{fnv1a}
use Rattle.replica_model.specs.Crashing.{Occurrence}
use Rattle.replica_model.specs.World.{World, Event, nothing, Runs, Unclashed}
use Rattle.trace_words.specs.Answer.{LineAnswer}
use Rattle.op_model.specs.Place.{plain}
use Rattle.op_model.specs.Shown.{values}
use Rattle.trace_words.specs.Command.{CommandValue, Look}
use Rattle.trace_words.specs.Text.{values_text}
use Rattle.trace_world.specs.Line.{Past, Answers}
use Rattle.trace_world.specs.Outcome.{CommandOutcome, Done, PinValue, pin_at, Comes}
use Rattle.trace_world.specs.Seen.{if_short, read_of, written_of}

-- a line has one answer, and one past after it
abbrev pub AnswersAreOne : Type 0
AnswersAreOne = (past : Past) (line : List ℕ) (answer answer' : LineAnswer) (next next' : Past)
    → Answers past line answer next → Answers past line answer' next' → (answer ≡ answer') × (next ≡ next')

-- a read is told by what its replica has seen, unless pages or values that one session met clash
abbrev pub ReadsAreSeen : Type 0
ReadsAreSeen = (events : List Event) (w : World) → Runs fnv1a nothing events w → Unclashed fnv1a w
    → (pins : List PinValue) (c : CommandValue) (outcome told : CommandOutcome) → read_of w c ≡ Some told → Comes fnv1a w pins c outcome → outcome ≡ told

-- a look at a pin that is there is told by what its replica had seen when it was made, unless pages or values that one session had met by then clash
abbrev pub LooksAreSeen : Type 0
LooksAreSeen = (w : World) (pins : List PinValue) (number : ℕ) (key : List ℕ) (pin : PinValue) (then : World) → pin_at pins number ≡ Some pin
    → Runs fnv1a nothing pin.events then → Unclashed fnv1a then
    → (outcome : CommandOutcome) → Comes fnv1a w pins (Look number key) outcome
    → outcome ≡ if_short key (Done (values_text (values (then.seen pin.name) (plain key))) [])

-- what a write, a removal or a flush that is not refused is answered is told by what its replica has seen and is to send, unless pages or values that
-- one session met clash
abbrev pub WritesAreSeen : Type 0
WritesAreSeen = (events : List Event) (w : World) → Runs fnv1a nothing events w → Unclashed fnv1a w
    → (pins : List PinValue) (c : CommandValue) (text told : List ℕ) (more : List Occurrence) → written_of w c ≡ Some told
    → Comes fnv1a w pins c (Done text more) → text ≡ told

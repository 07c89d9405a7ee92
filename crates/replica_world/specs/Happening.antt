-- What the calls, the events and the answers of a world are in the words of the model. Of this project.
use Rattle.replica_core.specs.Answered.{outcome_of}
use Rattle.replica_core.specs.Writing.{call_value}
use Rattle.replica_model.specs.Happened.{Happened}
use Rattle.replica_model.specs.Step as step
use Rattle.replica_model.specs.World as world
use Rattle.replica_world.specs.declared.accepted.Accepted.{Accepted}
use Rattle.replica_world.specs.declared.answer.Answer as declared
use Rattle.replica_world.specs.declared.answer.Answer.TheVariants as answer
use Rattle.replica_world.specs.declared.event.Event as events
use Rattle.replica_world.specs.declared.event.Event.TheVariants as event

abbrev pub answer_value : declared.Answer → step.Answer
answer_value answer.Nothing = step.Nothing
answer_value (answer.Dot dot) = step.Made dot
answer_value (answer.Count number) = step.Counted number
answer_value (answer.Number number) = step.Numbered number
answer_value (answer.Outcome outcome) = step.Came (outcome_of outcome)
answer_value (answer.Closed was) = step.Closed was

module _ {A : Type 0} where
  abbrev pub event_value : events.Event A → world.Event
  event_value (event.Node name) = world.Node name
  event_value (event.Call name c) = world.At name (call_value c)
  event_value (event.Deliver number name) = world.Deliver number name
  event_value (event.Restart name) = world.At name step.Restart

  abbrev pub happened_value : Accepted A → Happened
  happened_value a = record { event = event_value a.event; answer = answer_value a.answer; sent = a.sent }

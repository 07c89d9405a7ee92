-- What a turn says, wherever it lies in memory. Of this project.
use Rattle.std.specs.Prelude.{map}
use Rattle.wire_form.specs.Message.{message_of}
use Rattle.sync_protocol.specs.Asking.{asker_state}
use Rattle.page_fetching.specs.Building.{BuiltValue, GoesOn}
use Rattle.page_fetching.specs.declared.taken.Taken.{Taken}
use Rattle.page_fetching.specs.declared.taken.Taken.TheVariants as page
use Rattle.sync_protocol.specs.Turning as turning
use Rattle.sync_protocol.specs.Turning.{StepValue, StateAndStep}
use Rattle.sync_protocol.specs.declared.step.Step.{Step}
use Rattle.sync_protocol.specs.declared.step.Step.TheVariants.{Sent, Done, Ignored, Mismatch, Gone}
use Rattle.sync_protocol.specs.declared.turn.Turn.{Turn}

module _ {A : Type 0} where
  abbrev pub step_of : Step A → StepValue
  step_of (Sent messages) = turning.Sent (map message_of messages.items)
  step_of Done = turning.Done
  step_of Ignored = turning.Ignored
  step_of Mismatch = turning.Mismatch
  step_of Gone = turning.IsGone

abbrev pub turn_of : {H A : Type 0} → Turn H A → StateAndStep
turn_of turn = (asker_state turn.next, step_of turn.step)

-- what is built goes on from this where a page is taken
abbrev pub GoesOnBy : {H A : Type 0} → BuiltValue H → Taken H A → Type 0
GoesOnBy old page.Ignored = Unit {0}
GoesOnBy old page.Mismatch = Unit {0}
GoesOnBy old (page.Took next asks) = GoesOn old next.built

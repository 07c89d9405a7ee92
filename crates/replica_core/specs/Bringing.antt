-- A delta that brings what the end of an own session joins in. Of this project.
use Rattle.std.specs.Prelude.{◌≡◌, ℕ, List}
use Rattle.op_model.specs.Meaning.{MapState, greater}
use Rattle.op_model.specs.State.{join}
use Rattle.sync_protocol.specs.Asking.{AskerState}
use Rattle.sync_protocol.specs.Turning as turning
use Rattle.sync_protocol.specs.Turning.{StepValue}
use Rattle.replica_model.specs.Delivery.{Outcome, Done}
use Rattle.replica_model.specs.Mail.{Mail}
use Rattle.replica_model.specs.Replica.{Replica}
use Rattle.replica_model.specs.Step.{IsDelivery}
use Rattle.replica_core.specs.Turned.{closed_with}

-- the delivery ends a session, and what is held then is what was held with the delta joined in
abbrev pub Brings : (List ℕ → ℕ) → Replica → Mail → MapState → Type 0
Brings hash_of old mail delta =
    (new : Replica) (outcome : Outcome) (out : List Mail) → IsDelivery hash_of old mail new outcome out
    → (outcome ≡ Done) × (new.live ≡ join greater old.live delta)

-- the same of the turn of a session
pub record IsClosing (old : Replica) (state : AskerState) (step : StepValue) (delta : MapState) : Type 0 where
  pub done : step ≡ turning.Done
  pub live : (closed_with old state.session state.stage).live ≡ join greater old.live delta

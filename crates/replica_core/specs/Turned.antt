-- What a turn of a session makes of its replica, in the words of the model. Of this project.
use Rattle.std.specs.Prelude.{[], ◌∷◌, Option, Some, None, map}
use Rattle.causal_context.specs.Context.{has}
use Rattle.wire_form.specs.Message.{MessageValue}
use Rattle.wire_form.specs.Session.{SessionValue}
use Rattle.sync_model.specs.Closing as closing
use Rattle.sync_protocol.specs.Asking as asking
use Rattle.sync_protocol.specs.Asking.{AskerState, Stage}
use Rattle.sync_protocol.specs.Turning as turning
use Rattle.sync_protocol.specs.Turning.{StepValue}
use Rattle.replica_model.specs.Mail.{mail_of}
use Rattle.replica_model.specs.Replica.{Replica, joins, advances, closes}
use Rattle.replica_model.specs.Delivery.{Turn, turn, ignored, Sent, Done, Mismatch, Ended}

-- the replica with the session as it is at a stage at which it waits
abbrev pub advanced_to : Replica → SessionValue → Stage → Replica
advanced_to r s (asking.Waits own seen) = advances r (record { session = s; own = own; seen = has seen; accepted = None })
advanced_to r s (asking.Fetches own seen context f) =
    advances r (record { session = s; own = own; seen = has seen; accepted = Some (record { context = has context; fetch = f }) })
advanced_to r s (asking.Has context built) = r
advanced_to r s asking.Ended = r

-- the replica with the session closed, and what it has joined in
abbrev pub closed_with : Replica → SessionValue → Stage → Replica
closed_with r s (asking.Waits own seen) = r
closed_with r s (asking.Fetches own seen context f) = r
closed_with r s (asking.Has context built) = closes (joins r (closing.held_state built (has context))) s
closed_with r s asking.Ended = r

-- the turn of the replica by that of one of its sessions
abbrev pub turned : Replica → AskerState → StepValue → Turn
turned r state (turning.Sent messages) = turn (advanced_to r state.session state.stage) Sent (map mail_of messages)
turned r state turning.Done = turn (closed_with r state.session state.stage) Done []
turned r state turning.Ignored = ignored r
turned r state turning.Mismatch = turn r Mismatch []
turned r state turning.IsGone = turn (closes r state.session) Ended []

-- the turn by the answer to an ask, if it has one
abbrev pub asked_turn : Replica → Option MessageValue → Turn
asked_turn r None = ignored r
asked_turn r (Some m) = turn r Sent (mail_of m ∷ [])

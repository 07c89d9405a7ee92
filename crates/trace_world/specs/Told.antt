-- What is written of an event that happened in a world: of its answer, and of the messages that it made. Of this project.
use Rattle.std.specs.Prelude.{ℕ, suc, ◌+◌, Bool, true, false, List, [], ◌∷◌, ◌++◌, length, drop, codes, Option, Some, None}
use Rattle.replica_model.specs.Delivery.{Outcome, Joined, Sent, Done, Ignored, Mismatch, Ended}
use Rattle.replica_model.specs.Mail.{Mail, Delta, Hello, Opening, Ask, Page, Gone}
use Rattle.replica_model.specs.Step.{Answer, Nothing, Made, Counted, Numbered, Came, Closed}
use Rattle.replica_model.specs.World.{World, Event, Node, At, Deliver, Message}
use Rattle.trace_words.specs.Text.{put_text, erased_text, session_text, message_text}
use Rattle.trace_words.specs.declared.kind.Kind.{Kind}
use Rattle.trace_words.specs.declared.kind.Kind.TheVariants as kind

abbrev pub kind_of : Mail → Kind
kind_of (Delta d) = kind.Delta
kind_of (Hello s seen) = kind.Hello
kind_of (Opening s context root) = kind.Opening
kind_of (Ask s prefix) = kind.Ask prefix
kind_of (Page s sent) = kind.Page sent.prefix
kind_of (Gone s) = kind.Gone

-- of these messages, the first of which has this number
abbrev pub messages_text : ℕ → List Message → List ℕ
messages_text number [] = []
messages_text number (m ∷ ms) = message_text number (kind_of m.mail) ++ messages_text (suc number) ms

-- of the message of this number, if there is one
abbrev pub kind_found : Option Message → Option Kind
kind_found None = None
kind_found (Some m) = Some (kind_of m.mail)

abbrev pub found_text : ℕ → Option Message → List ℕ
found_text number None = []
found_text number (Some m) = message_text number (kind_of m.mail)

-- "sent", then each message
abbrev pub sent_text : ℕ → List Message → List ℕ
sent_text number ms = codes "sent" ++ messages_text number ms

-- of a flush, "empty" where nothing was to be sent
abbrev pub flush_text : ℕ → List Message → List ℕ
flush_text number [] = codes "empty"
flush_text number (m ∷ ms) = sent_text number (m ∷ ms)

-- of a delivery or a retry
abbrev pub outcome_text : Outcome → ℕ → List Message → List ℕ
outcome_text Joined number ms = codes "joined"
outcome_text Sent number ms = sent_text number ms
outcome_text Done number ms = codes "done"
outcome_text Ignored number ms = codes "ignored"
outcome_text Mismatch number ms = codes "mismatch"
outcome_text Ended number ms = codes "gone"

-- of a session that was given up, or was not open
abbrev pub closed_text : Bool → List ℕ
closed_text true = codes "ok"
closed_text false = codes "ignored"

-- of an answer, with the messages made
abbrev pub told_text : Answer → ℕ → List Message → List ℕ
told_text Nothing number ms = flush_text number ms
told_text (Made dot) number ms = put_text dot
told_text (Counted n) number ms = erased_text n
told_text (Numbered n) number ms = session_text n ++ messages_text number ms
told_text (Came outcome) number ms = outcome_text outcome number ms
told_text (Closed was) number ms = closed_text was

abbrev pub event_text : Event → Answer → ℕ → List Message → List ℕ
event_text (Node name) answer number ms = codes "ok"
event_text (At name call) answer number ms = told_text answer number ms
event_text (Deliver message name) answer number ms = told_text answer number ms

-- of an event that led from the first world to the second: the messages that it made are those that the first has not
abbrev pub happened_text : Event → Answer → World → World → List ℕ
happened_text e answer w v = event_text e answer (length w.messages + 1) (drop (length w.messages) v.messages)

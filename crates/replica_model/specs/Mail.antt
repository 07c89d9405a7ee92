-- What replicas send to one another, by what it means: no bytes, and contexts as tests on dots. Of this project; a delta is that of
-- Almeida, Shoker and Baquero, "Delta State Replicated Data Types" (2018).
use Rattle.std.specs.Prelude.{◌≡◌, ℕ, Bool, true, ◌==◌, List, Option}
use Rattle.dots.specs.Dot.{DotValue}
use Rattle.causal_context.specs.Context.{has}
use Rattle.causal_join.specs.OrMap.{or_map_state}
use Rattle.op_model.specs.Meaning.{MapState}
use Rattle.wire_form.specs.Session.{SessionValue}
use Rattle.wire_form.specs.Sent.{SentValue}
use Rattle.wire_form.specs.Message.{MessageValue}
use Rattle.wire_form.specs.Message as message

pub data Mail : Type 0 where
  Delta : MapState → Mail  -- what a replica made since it last sent
  Hello : SessionValue → (DotValue → Bool) → Mail  -- the dots that the asker knows
  Opening : SessionValue → (DotValue → Bool) → Option (List ℕ) → Mail  -- the dots that the answerer knew, and its root digest
  Ask : SessionValue → List ℕ → Mail  -- for the page at a prefix
  Page : SessionValue → SentValue → Mail
  Gone : SessionValue → Mail

-- what a message of the wire means
abbrev pub mail_of : MessageValue → Mail
mail_of (message.Delta d) = Delta (or_map_state d)
mail_of (message.Hello s seen) = Hello s (has seen)
mail_of (message.Opening s context root) = Opening s (has context) root
mail_of (message.Ask s prefix) = Ask s prefix
mail_of (message.Page s sent) = Page s sent
mail_of (message.Gone s) = Gone s

-- whether a replica of this name may take it: a delta is for each, a hello and an ask are for the answerer of their session, and an
-- opening, a page and a gone for its asker
abbrev pub is_for : ℕ → Mail → Bool
is_for name (Delta d) = true
is_for name (Hello s seen) = s.answerer == name
is_for name (Opening s context root) = s.asker == name
is_for name (Ask s prefix) = s.answerer == name
is_for name (Page s sent) = s.asker == name
is_for name (Gone s) = s.asker == name

-- it is an opening or a page of this session, as those are by which a session can end with all that was asked for
abbrev pub IsTurnOf : SessionValue → Mail → Type 0
IsTurnOf session (Delta d) = ⊥
IsTurnOf session (Hello s seen) = ⊥
IsTurnOf session (Opening s context root) = session ≡ s
IsTurnOf session (Ask s prefix) = ⊥
IsTurnOf session (Page s sent) = session ≡ s
IsTurnOf session (Gone s) = ⊥

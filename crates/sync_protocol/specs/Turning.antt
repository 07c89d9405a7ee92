-- What a session of an asker comes to by a message. Of this project.
use Rattle.std.specs.Prelude.{ℕ, ◌==◌, List, [], ◌∷◌, ◌++◌, map, Option, cond}
use Rattle.std.specs.FinMap as finite
use Rattle.causal_context.specs.Context.{ContextValue, has}
use Rattle.wire_form.specs.Message.{MessageValue, Delta, Hello, Opening, Ask, Page, Gone}
use Rattle.wire_form.specs.Sent.{SentValue}
use Rattle.wire_form.specs.Session.{SessionValue, same_session}
use Rattle.sync_model.specs.Differ.{Held}
use Rattle.sync_model.specs.Fetch as model
use Rattle.sync_model.specs.Fetch.{Fetch, children_of, to_ask, take_opening, take_page}
use Rattle.sync_protocol.specs.Asking.{AskerState, Stage, Waits, Fetches, Has, Ended}

-- What a turn comes to: messages to be sent; all is there; nothing, as the message was not waited for; it is not what was promised; or the
-- answerer does not keep the session
pub data StepValue : Type 0 where
  Sent : List MessageValue → StepValue
  Done : StepValue
  Ignored : StepValue
  Mismatch : StepValue
  IsGone : StepValue

abbrev pub StateAndStep : Type 0
StateAndStep = AskerState × StepValue

-- the session at this stage
abbrev pub at_stage : SessionValue → Stage → AskerState
at_stage s stage = record { session = s; stage = stage }

module _ (session : SessionValue) (own : Held) (seen context : ContextValue) where
  -- what is fetched: all, or the rest is asked for
  abbrev pub goes_on : List MessageValue → Fetch → StateAndStep
  goes_on asks f = cond (finite.len f.waiting == 0) (at_stage session (Has context f.built), Done) (at_stage session (Fetches own seen context f), Sent asks)

  -- what a message comes to at a stage
  abbrev pub comes_to : Stage → List MessageValue → model.Taken → StateAndStep
  comes_to stage asks model.Ignored = (at_stage session stage, Ignored)
  comes_to stage asks model.Mismatch = (at_stage session stage, Mismatch)
  comes_to stage asks (model.Took f) = goes_on asks f

-- that the answerer does not keep the session
abbrev pub gone_at : SessionValue → Stage → StateAndStep
gone_at session (Waits own seen) = (at_stage session Ended, IsGone)
gone_at session (Fetches own seen context f) = (at_stage session Ended, IsGone)
gone_at session (Has known built) = (at_stage session (Has known built), Ignored)
gone_at session Ended = (at_stage session Ended, Ignored)

module _ (hash_of : List ℕ → ℕ) (session : SessionValue) where
  -- an opening with these dots and this root digest
  abbrev pub opening_at : Stage → ContextValue → Option (List ℕ) → StateAndStep
  opening_at (Waits own seen) context root = comes_to session own seen context (Waits own seen) (Ask session [] ∷ [])
      (take_opening hash_of own (has seen) (has context) root)
  opening_at (Fetches own seen known f) context root = (at_stage session (Fetches own seen known f), Ignored)
  opening_at (Has known built) context root = (at_stage session (Has known built), Ignored)
  opening_at Ended context root = (at_stage session Ended, Ignored)

  -- the asks for the children of a page that have to be asked for
  abbrev pub asks_for : Held → SentValue → List MessageValue
  asks_for own s = map (Ask session) (map (λ c. s.prefix ++ c.0 ∷ []) (to_ask hash_of own s.prefix (children_of s.page)))

  -- a page
  abbrev pub page_at_stage : Stage → SentValue → StateAndStep
  page_at_stage (Waits own seen) s = (at_stage session (Waits own seen), Ignored)
  page_at_stage (Fetches own seen context f) s =
      comes_to session own seen context (Fetches own seen context f) (asks_for own s)
      (take_page hash_of own (has seen) (has context) f s.prefix s.page s.values)
  page_at_stage (Has known built) s = (at_stage session (Has known built), Ignored)
  page_at_stage Ended s = (at_stage session Ended, Ignored)

module _ (hash_of : List ℕ → ℕ) (state : AskerState) where
  -- of another session, or of another kind, a message is ignored
  abbrev pub on_opening : MessageValue → StateAndStep
  on_opening (Opening s context root) = cond (same_session state.session s) (opening_at hash_of state.session state.stage context root) (state, Ignored)
  on_opening (Delta d) = (state, Ignored)
  on_opening (Hello s c) = (state, Ignored)
  on_opening (Ask s p) = (state, Ignored)
  on_opening (Page s p) = (state, Ignored)
  on_opening (Gone s) = (state, Ignored)

  abbrev pub on_page : MessageValue → StateAndStep
  on_page (Page s page) = cond (same_session state.session s) (page_at_stage hash_of state.session state.stage page) (state, Ignored)
  on_page (Gone s) = cond (same_session state.session s) (gone_at state.session state.stage) (state, Ignored)
  on_page (Delta d) = (state, Ignored)
  on_page (Hello s c) = (state, Ignored)
  on_page (Opening s context root) = (state, Ignored)
  on_page (Ask s p) = (state, Ignored)

-- the messages that are sent again: the hello, or an ask for each prefix that is waited for, in ascending order
abbrev pub again : SessionValue → Stage → List MessageValue
again s (Waits own seen) = Hello s seen ∷ []
again s (Fetches own seen context f) = map (Ask s) (map (λ e. e.0) (finite.entries f.waiting))
again s (Has known built) = []
again s Ended = []

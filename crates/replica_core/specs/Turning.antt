-- What the turn of a session gives its replica to take in. Of this project.
use Rattle.std.specs.Prelude.{◌≡◌, ◌⊎◌, ℕ, false, List, Option}
use Rattle.causal_context.specs.Context.{ContextValue, has}
use Rattle.sync_model.specs.Laws.{KnowsEachDot}
use Rattle.page_fetching.specs.Building.{BuiltValue}
use Rattle.wire_form.specs.Message.{MessageValue, Delta, Hello, Opening, Ask, Page, Gone}
use Rattle.wire_form.specs.Sent.{SentValue}
use Rattle.wire_form.specs.Session.{SessionValue}
use Rattle.sync_protocol.specs.Asking.{AskerState, AskerValue, Complete, IsFrom, is_over}
use Rattle.sync_protocol.specs.Turning.{StateAndStep, StepValue, Sent, Done, Ignored, Mismatch, IsGone, on_opening, on_page}
use Rattle.replica_core.specs.Own.{KnowsBuilt}

-- the message is an opening or a page of this session
abbrev pub IsShown : SessionValue → MessageValue → Type 0
IsShown s message = ((context : ContextValue) × (root : Option (List ℕ)) × (message ≡ Opening s context root)) ⊎ ((sent : SentValue) × (message ≡ Page s sent))

-- it is one of these, or says that the session is not kept
abbrev pub IsAnswer : SessionValue → MessageValue → Type 0
IsAnswer s message = IsShown s message ⊎ (message ≡ Gone s)

-- what a session comes to by an answer
abbrev pub answered : (List ℕ → ℕ) → AskerState → MessageValue → StateAndStep
answered hash_of state (Opening s context root) = on_opening hash_of state (Opening s context root)
answered hash_of state (Page s sent) = on_page hash_of state (Page s sent)
answered hash_of state (Gone s) = on_page hash_of state (Gone s)
answered hash_of state (Delta d) = on_page hash_of state (Delta d)
answered hash_of state (Hello s c) = on_page hash_of state (Hello s c)
answered hash_of state (Ask s p) = on_page hash_of state (Ask s p)

module _ {Hash : Type 0} (hash_of : Hash → List ℕ → ℕ) where
  -- it goes on, of the same own map
  pub record IsGoingOn (a next : AskerValue Hash) : Type 0 where
    pub is_open : is_over next.stage ≡ false
    pub own : next.own ≡ a.own
    pub seen : next.seen ≡ a.seen
    pub built : KnowsBuilt hash_of a.hash a.own next.stage

  -- all is there, and is known to the opening
  pub record IsWhole (next : AskerValue Hash) : Type 0 where
    pub context : ContextValue
    pub built : BuiltValue Hash
    pub complete : next.stage ≡ Complete context built
    pub known : KnowsEachDot (has context) built.entries

  abbrev pub Gives : AskerValue Hash → AskerValue Hash → StepValue → Type 0
  Gives a next (Sent messages) = IsGoingOn a next
  Gives a next Done = IsWhole next
  Gives a next Ignored = Unit {0}
  Gives a next Mismatch = Unit {0}
  Gives a next IsGone = Unit {0}

  -- the second is the first after a message, and this is what came of it
  pub record CanTake (a next : AskerValue Hash) (step : StepValue) : Type 0 where
    pub session : next.session ≡ a.session
    pub goes_from : IsFrom a next
    pub gives : Gives a next step

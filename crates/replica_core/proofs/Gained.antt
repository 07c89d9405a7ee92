-- What a session gives its replica, by what came of a message.
use Rattle.std.proofs.Common.{◌≡◌, ℕ, List, [], ◌∷◌, Bool, true, false, Option, cond, refl, sym, ap, subst}
use Rattle.std.specs.Prelude.{◌==◌}
use Rattle.std.specs.FinMap as finite
use Rattle.causal_context.specs.Context.{ContextValue, has}
use Rattle.wire_form.specs.Message.{MessageValue}
use Rattle.wire_form.specs.Sent.{SentValue}
use Rattle.sync_model.specs.Differ.{Held}
use Rattle.sync_model.specs.Fetch.{Fetch, take_opening, take_page}
use Rattle.sync_model.specs.Fetch as model
use Rattle.page_fetching.specs.Building.{BuiltValue}
use Rattle.page_fetching.specs.Taking.{FetchingValue, fetch_of}
use Rattle.sync_protocol.specs.Asking.{AskerValue, StageValue, Asked, Fetching, Complete, Over, Stage, Waits, Fetches, Has, Ended, AskerState, IsFrom, is_over}
use Rattle.sync_protocol.specs.Asking.{stage_with, asker_state}
use Rattle.sync_protocol.specs.Turning.{StepValue, Sent, Done, Ignored, Mismatch, IsGone, StateAndStep, at_stage, goes_on, comes_to, opening_at, page_at_stage}
use Rattle.sync_protocol.specs.Turning.{asks_for, gone_at}
use Rattle.replica_core.specs.Known.{IsKnown}
use Rattle.replica_core.specs.Own.{KnowsBuilt}
use Rattle.replica_core.specs.Turning.{IsGoingOn, IsWhole, Gives, CanTake}
use Rattle.replica_core.proofs.KnownFetch.{known_opening, known_page, known_whole, complete_whole}

-- a stage is told by what it says
fetches_back : {Hash : Type 0} (stage : StageValue Hash) (own o : Held) (seen s c : ContextValue) (f : Fetch) → stage_with own seen stage ≡ Fetches o s c f
    → (g : FetchingValue Hash) × (stage ≡ Fetching c g) × (own ≡ o) × (seen ≡ s) × (fetch_of g ≡ f)
fetches_back Asked own o seen s c f e = absurd cc
fetches_back (Fetching d g) own o seen s c f e =
    let same : d ≡ c = cc in
    (g, ap (λ x. Fetching x g) same, (let x : own ≡ o = cc in x), (let y : seen ≡ s = cc in y), (let z : fetch_of g ≡ f = cc in z))
fetches_back (Complete d b) own o seen s c f e = absurd cc
fetches_back Over own o seen s c f e = absurd cc

has_back : {Hash : Type 0} (stage : StageValue Hash) (own : Held) (seen c : ContextValue) (m : Held) → stage_with own seen stage ≡ Has c m
    → (b : BuiltValue Hash) × (stage ≡ Complete c b) × (b.entries ≡ m)
has_back Asked own seen c m e = absurd cc
has_back (Fetching d g) own seen c m e = absurd cc
has_back (Complete d b) own seen c m e = let same : d ≡ c = cc in (b, ap (λ x. Complete x b) same, (let y : b.entries ≡ m = cc in y))
has_back Over own seen c m e = absurd cc

-- a session, and the step that it made
abbrev pub outcome : AskerState → StepValue → StateAndStep
outcome state step = (state, step)

module _ {Hash : Type 0} (hash_of : Hash → List ℕ → ℕ) (a next : AskerValue Hash) (goes_from : IsFrom a next) where
  session_is : (step is : StepValue) (stage : Stage) → outcome (asker_state next) step ≡ outcome (at_stage a.session stage) is → next.session ≡ a.session
  session_is step is stage e = ap (λ (t : StateAndStep). t.0.session) e

  step_is : (step is : StepValue) (stage : Stage) → outcome (asker_state next) step ≡ outcome (at_stage a.session stage) is → is ≡ step
  step_is step is stage e = sym (ap (λ (t : StateAndStep). t.1) e)

  stage_is : (step is : StepValue) (stage : Stage) → outcome (asker_state next) step ≡ outcome (at_stage a.session stage) is
      → stage_with next.own next.seen next.stage ≡ stage
  stage_is step is stage e = ap (λ (t : StateAndStep). t.0.stage) e

  -- it gives nothing
  nothing_given : (step is : StepValue) (stage : Stage) → Gives hash_of a next is → outcome (asker_state next) step ≡ outcome (at_stage a.session stage) is
      → CanTake hash_of a next step
  nothing_given step is stage gives e = record {
    session = session_is step is stage e;
    goes_from = goes_from;
    gives = subst (Gives hash_of a next) (step_is step is stage e) gives;
  }

  sent_gives : (c : ContextValue) (f : Fetch) → IsKnown (hash_of a.hash) a.own (has c) f → stage_with next.own next.seen next.stage ≡ Fetches a.own a.seen c f
      → IsGoingOn hash_of a next
  sent_gives c f known e =
      let back = fetches_back next.stage next.own a.own next.seen a.seen c f e in
      record {
        is_open = subst (λ (s : StageValue Hash). is_over s ≡ false) (sym back.1) refl;
        own = back.2;
        seen = back.3;
        built = subst (KnowsBuilt hash_of a.hash a.own) (sym back.1) (subst (IsKnown (hash_of a.hash) a.own (has c)) (sym back.4) known);
      }

  done_gives : (c : ContextValue) (f : Fetch) → IsKnown (hash_of a.hash) a.own (has c) f → (finite.len f.waiting == 0) ≡ true
      → stage_with next.own next.seen next.stage ≡ Has c f.built → IsWhole hash_of next
  done_gives c f known complete e =
      let back = has_back next.stage next.own next.seen c f.built e in
      record {
        context = c;
        built = back.0;
        complete = back.1;
        known = subst (Rattle.sync_model.specs.Laws.KnowsEachDot (has c)) (sym back.2)
            (known_whole (hash_of a.hash) a.own (has a.seen) (has c) f known (complete_whole f complete));
      }

  goes_take : (step : StepValue) (c : ContextValue) (asks : List MessageValue) (f : Fetch) → IsKnown (hash_of a.hash) a.own (has c) f
      → outcome (asker_state next) step ≡ goes_on a.session a.own a.seen c asks f → CanTake hash_of a next step
  goes_take step c asks f known e = split (finite.len f.waiting == 0) refl e
    where
      split : (b : Bool) → (finite.len f.waiting == 0) ≡ b
          → outcome (asker_state next) step ≡ cond b (outcome (at_stage a.session (Has c f.built)) Done)
          (outcome (at_stage a.session (Fetches a.own a.seen c f)) (Sent asks)) → CanTake hash_of a next step
      split true complete is = record {
        session = session_is step Done (Has c f.built) is;
        goes_from = goes_from;
        gives = subst (Gives hash_of a next) (step_is step Done (Has c f.built) is) (done_gives c f known complete (stage_is step Done (Has c f.built) is));
      }
      split false more is = record {
        session = session_is step (Sent asks) (Fetches a.own a.seen c f) is;
        goes_from = goes_from;
        gives = subst (Gives hash_of a next) (step_is step (Sent asks) (Fetches a.own a.seen c f) is)
            (sent_gives c f known (stage_is step (Sent asks) (Fetches a.own a.seen c f) is));
      }

  comes_take : (step : StepValue) (c : ContextValue) (stage : Stage) (asks : List MessageValue) (t : model.Taken)
      → ((f : Fetch) → t ≡ model.Took f → IsKnown (hash_of a.hash) a.own (has c) f)
      → outcome (asker_state next) step ≡ comes_to a.session a.own a.seen c stage asks t → CanTake hash_of a next step
  comes_take step c stage asks model.Ignored known e = nothing_given step Ignored stage tt e
  comes_take step c stage asks model.Mismatch known e = nothing_given step Mismatch stage tt e
  comes_take step c stage asks (model.Took f) known e = goes_take step c asks f (known f refl) e

  opening_step : (step : StepValue) (context : ContextValue) (root : Option (List ℕ)) (s : StageValue Hash) → is_over s ≡ false
      → outcome (asker_state next) step ≡ opening_at (hash_of a.hash) a.session (stage_with a.own a.seen s) context root → CanTake hash_of a next step
  opening_step step context root Asked unended e =
      comes_take step context (Waits a.own a.seen) (Rattle.wire_form.specs.Message.Ask a.session [] ∷ [])
      (take_opening (hash_of a.hash) a.own (has a.seen) (has context) root)
      (λ f is. known_opening (hash_of a.hash) a.own (has a.seen) (has context) root f is) e
  opening_step step context root (Fetching c f) unended e = nothing_given step Ignored (Fetches a.own a.seen c (fetch_of f)) tt e
  opening_step step context root (Complete c b) unended e = nothing_given step Ignored (Has c b.entries) tt e
  opening_step step context root Over unended e = nothing_given step Ignored Ended tt e

  -- an opening
  pub opening_gives : (step : StepValue) (context : ContextValue) (root : Option (List ℕ)) → is_over a.stage ≡ false
      → outcome (asker_state next) step ≡ opening_at (hash_of a.hash) a.session (stage_with a.own a.seen a.stage) context root → CanTake hash_of a next step
  opening_gives step context root = opening_step step context root a.stage

  page_step : (step : StepValue) (sent : SentValue) (s : StageValue Hash) → KnowsBuilt hash_of a.hash a.own s
      → outcome (asker_state next) step ≡ page_at_stage (hash_of a.hash) a.session (stage_with a.own a.seen s) sent → CanTake hash_of a next step
  page_step step sent Asked knows e = nothing_given step Ignored (Waits a.own a.seen) tt e
  page_step step sent (Fetching c f) knows e =
      comes_take step c (Fetches a.own a.seen c (fetch_of f)) (asks_for (hash_of a.hash) a.session a.own sent)
      (take_page (hash_of a.hash) a.own (has a.seen) (has c) (fetch_of f) sent.prefix sent.page sent.values)
      (λ g is. known_page (hash_of a.hash) a.own (has a.seen) (has c) (fetch_of f) g sent.prefix sent.page sent.values knows is) e
  page_step step sent (Complete c b) knows e = nothing_given step Ignored (Has c b.entries) tt e
  page_step step sent Over knows e = nothing_given step Ignored Ended tt e

  -- a page
  pub page_gives : (step : StepValue) (sent : SentValue) → KnowsBuilt hash_of a.hash a.own a.stage
      → outcome (asker_state next) step ≡ page_at_stage (hash_of a.hash) a.session (stage_with a.own a.seen a.stage) sent → CanTake hash_of a next step
  page_gives step sent = page_step step sent a.stage

  gone_step : (step : StepValue) (s : StageValue Hash) → outcome (asker_state next) step ≡ gone_at a.session (stage_with a.own a.seen s)
      → CanTake hash_of a next step
  gone_step step Asked e = nothing_given step IsGone Ended tt e
  gone_step step (Fetching c f) e = nothing_given step IsGone Ended tt e
  gone_step step (Complete c b) e = nothing_given step Ignored (Has c b.entries) tt e
  gone_step step Over e = nothing_given step Ignored Ended tt e

  -- a gone
  pub gone_gives : (step : StepValue) → outcome (asker_state next) step ≡ gone_at a.session (stage_with a.own a.seen a.stage) → CanTake hash_of a next step
  gone_gives step = gone_step step a.stage

-- What a turn comes to is what the definition says.
use Rattle.std.proofs.Common.{◌≡◌, ◌↔◌, ℕ, ◌+◌, ◌<◌, ◌≤◌, List, [], ◌∷◌, ◌++◌, length, drop, get_or, Bool, true, false, cond, Some, None, nat_eq, refl, sym}
use Rattle.std.proofs.Common.{◌∙◌, ap, subst, append_assoc, append-nil}
use Rattle.std.specs.Prelude.{map, IsTrue, Option, IfSome}
use Rattle.std.specs.FinMap as finite
use Rattle.std.specs.FinMap.{get-empty, len-empty}
use Rattle.dots.specs.Bytes.{bytes_cmp}
use Rattle.dots.specs.Dot.{DotValue}
use Rattle.causal_context.specs.Context.{ContextValue, has}
use Rattle.wire_form.specs.Message.{MessageValue}
use Rattle.sync_model.specs.Differ.{Held}
use Rattle.sync_model.specs.Fetch.{Fetch}
use Rattle.sync_model.specs.Laws.{KnowsEachDot}
use Rattle.page_fetching.specs.Building.{BuiltValue, GoesOn}
use Rattle.page_fetching.specs.Taking.{FetchingValue, fetch_of, begun}
use Rattle.page_fetching.proofs.Asks.{complete_is}
use Rattle.page_fetching.proofs.Going.{goes_on_itself}
use Rattle.page_fetching.proofs.Loops.{stands_at, is_past}
use Rattle.sync_protocol.specs.Asking as asking
use Rattle.sync_protocol.specs.Asking.{AskerValue, StageValue, AskerState, Stage, is_asked, is_fetching, has_completed, is_over, Waits, Fetches, Has, Ended}
use Rattle.sync_protocol.specs.Asking.{stage_with, asker_state}
use Rattle.sync_protocol.specs.Turning.{Sent, Done, Ignored, IsGone, StateAndStep, at_stage, again, goes_on, comes_to, gone_at, page_at_stage}
use Rattle.wire_form.specs.Message.{Ask, Hello}
use Rattle.wire_form.specs.Session.{SessionValue, same_session}
use Rattle.sync_model.specs.Fetch as model
use Rattle.sync_model.specs.Fetch.{children_of, to_ask, take_opening, take_page}
use Rattle.wire_form.specs.Sent.{SentValue}

-- ---- a list that is made item by item of another

module _ {X Y Z : Type 0} (f : X → Z) (g : Y → Z) where
  map_last : (xs : List X) (x : X) → map f (xs ++ x ∷ []) ≡ map f xs ++ f x ∷ []
  map_last [] x = refl
  map_last (y ∷ xs) x = ap (λ l. f y ∷ l) (map_last xs x)

  pub none_made : (xs : List X) (ys : List Y) → xs ≡ [] → map g ys ≡ map f xs ++ map g (drop 0 ys)
  none_made xs ys none = ap (λ l. map f l ++ map g ys) (sym none)

  pub one_made : (xs new : List X) (x : X) (ys : List Y) (i : ℕ) (y : Y) → map g ys ≡ map f xs ++ map g (drop i ys) → i < length ys → y ≡ get_or ys i y
      → f x ≡ g y → new ≡ xs ++ x ∷ []
      → map g ys ≡ map f new ++ map g (drop (i + 1) ys)
  one_made xs new x ys i y before within is same put =
      before ∙ ap (λ l. map f xs ++ map g l) (stands_at ys i y within is) ∙ ap (λ z. map f xs ++ z ∷ map g (drop (i + 1) ys)) (sym same)
      ∙ sym (append_assoc (map f xs) (f x ∷ []) (map g (drop (i + 1) ys))) ∙ ap (λ l. l ++ map g (drop (i + 1) ys)) (sym (map_last xs x))
      ∙ ap (λ l. map f l ++ map g (drop (i + 1) ys)) (sym put)

  pub all_made : (xs : List X) (ys : List Y) (i : ℕ) → map g ys ≡ map f xs ++ map g (drop i ys) → length ys ≤ i → map f xs ≡ map g ys
  all_made xs ys i before past = sym (before ∙ ap (λ l. map f xs ++ map g l) (is_past ys i past) ∙ append-nil (map f xs))

-- ---- the empty map

pub within_nothing : (seen : DotValue → Bool) (m : Held) → m ≡ finite.empty → KnowsEachDot seen m
within_nothing seen m none key fs e = let no = sym (get-empty bytes_cmp key) ∙ ap (λ n. finite.get n key) (sym none) ∙ e in absurd cc

module _ {Hash : Type 0} where
  pub starts_there : (old built : BuiltValue Hash) → built ≡ old → GoesOn old built
  starts_there old built is = subst (GoesOn old) (sym is) (goes_on_itself old)

  -- ---- what is fetched

  empty_len : (f : FetchingValue Hash) (b : Bool) → IsTrue b ↔ ((p : List ℕ) → finite.get f.waiting p ≡ None) → nat_eq (finite.len f.waiting) 0 ≡ b
  empty_len f true h = (complete_is f.waiting (finite.len f.waiting) refl).1 (h.0 refl)
  empty_len f false h = step (nat_eq (finite.len f.waiting) 0) refl
    where
      step : (c : Bool) → nat_eq (finite.len f.waiting) 0 ≡ c → c ≡ false
      step false e = refl
      step true e = sym (h.1 ((complete_is f.waiting (finite.len f.waiting) refl).0 e))

  pub done_turn : (a next : AskerValue Hash) (f : FetchingValue Hash) (context known : ContextValue) (built : BuiltValue Hash)
      (asks : List MessageValue) (b : Bool)
      → IsTrue b ↔ ((p : List ℕ) → finite.get f.waiting p ≡ None) → b ≡ true → next ≡ record a { stage = asking.Complete known built } → known ≡ context
      → built ≡ f.built
      → (asker_state next, Done) ≡ goes_on a.session a.own a.seen context asks (fetch_of f)
  done_turn a next f context known built asks b h on is same from =
      ap (λ n. (asker_state n, Done)) is ∙ (λ k. (asker_state (record a { stage = asking.Complete (same k) (from k) }), Done))
      ∙ ap (λ c. cond c (asker_state (record a { stage = asking.Complete context f.built }), Done)
      (asker_state (record a { stage = asking.Fetching context f }), Sent asks)) (sym (empty_len f b h ∙ on))

  pub sent_turn : (a next : AskerValue Hash) (f : FetchingValue Hash) (context known : ContextValue) (asks : List MessageValue) (b : Bool)
      → IsTrue b ↔ ((p : List ℕ) → finite.get f.waiting p ≡ None) → b ≡ false → next ≡ record a { stage = asking.Fetching known f } → known ≡ context
      → (asker_state next, Sent asks) ≡ goes_on a.session a.own a.seen context asks (fetch_of f)
  sent_turn a next f context known asks b h off is same =
      ap (λ n. (asker_state n, Sent asks)) is ∙ (λ k. (asker_state (record a { stage = asking.Fetching (same k) f }), Sent asks))
      ∙ ap (λ c. cond c (asker_state (record a { stage = asking.Complete context f.built }), Done)
      (asker_state (record a { stage = asking.Fetching context f }), Sent asks)) (sym (empty_len f b h ∙ off))

  -- ---- an opening

  pub begun_built : (o : Option (FetchingValue Hash)) (f : FetchingValue Hash) (b : BuiltValue Hash) → o ≡ Some f → IfSome o (λ g. g.built ≡ b) → f.built ≡ b
  begun_built o f b is h = subst (λ p. IfSome p (λ g. g.built ≡ b)) is h

  pub turn_begun : (a : AskerValue Hash) (out : StateAndStep) (context : ContextValue) (asks : List MessageValue) (f : FetchingValue Hash)
      (o : Option (FetchingValue Hash)) (taken : model.Taken)
      → out ≡ goes_on a.session a.own a.seen context asks (fetch_of f) → asks ≡ Ask a.session [] ∷ [] → o ≡ Some f → begun o ≡ taken
      → out ≡ comes_to a.session a.own a.seen context (Waits a.own a.seen) (Ask a.session [] ∷ []) taken
  turn_begun a out context asks f o taken is told there made =
      is ∙ ap (λ ms. goes_on a.session a.own a.seen context ms (fetch_of f)) told
      ∙ ap (comes_to a.session a.own a.seen context (Waits a.own a.seen) (Ask a.session [] ∷ [])) (sym (ap begun there) ∙ made)

  pub turn_nothing : (hash_of : List ℕ → ℕ) (a next : AskerValue Hash) (context : ContextValue) (root : Option (List ℕ)) → root ≡ None
      → asker_state next ≡ record { session = a.session; stage = Has context finite.empty }
      → (asker_state next, Done) ≡ comes_to a.session a.own a.seen context (Waits a.own a.seen) (Ask a.session [] ∷ [])
      (take_opening hash_of a.own (has a.seen) (has context) root)
  turn_nothing hash_of a next context root none is =
      (λ k. (is k, Done)) ∙ ap (λ n. cond (nat_eq n 0) (ended, Done) (left, Sent (Ask a.session [] ∷ []))) (sym (len-empty bytes_cmp (List ℕ)))
      ∙ ap (λ r. comes_to a.session a.own a.seen context (Waits a.own a.seen) (Ask a.session [] ∷ [])
      (take_opening hash_of a.own (has a.seen) (has context) r)) (sym none)
    where
      nothing : Fetch
      nothing = record { waiting = finite.empty; built = finite.empty }

      ended : AskerState
      ended = record { session = a.session; stage = Has context finite.empty }

      left : AskerState
      left = record { session = a.session; stage = Fetches a.own a.seen context nothing }

  -- ---- a page

  pub turn_took : (a : AskerValue Hash) (out : StateAndStep) (context : ContextValue) (stage : Stage) (ms : List MessageValue) (f : FetchingValue Hash)
      (items asks : List (List ℕ)) (s : SessionValue)
      → out ≡ goes_on a.session a.own a.seen context ms (fetch_of f) → ms ≡ map (Ask s) items → s ≡ a.session → items ≡ asks
      → out ≡ comes_to a.session a.own a.seen context stage (map (Ask a.session) asks) (model.Took (fetch_of f))
  turn_took a out context stage ms f items asks s is told same those =
      is ∙ ap (λ l. goes_on a.session a.own a.seen context l (fetch_of f)) (told ∙ (λ k. map (Ask (same k)) (those k)))

  pub turn_page : (hash_of : Hash → List ℕ → ℕ) (view a : AskerValue Hash) (context : ContextValue) (f : FetchingValue Hash) (out : StateAndStep)
      (taken : model.Taken) (sent : SentValue)
      → view ≡ a → a.stage ≡ asking.Fetching context f
      → taken ≡ take_page (hash_of view.hash) view.own (has view.seen) (has context) (fetch_of f) sent.prefix sent.page sent.values
      → out ≡ comes_to a.session a.own a.seen context (stage_with a.own a.seen a.stage)
      (map (Ask a.session) (map (λ c. sent.prefix ++ c.0 ∷ []) (to_ask (hash_of view.hash) view.own sent.prefix (children_of sent.page)))) taken
      → out ≡ page_at_stage (hash_of a.hash) a.session (stage_with a.own a.seen a.stage) sent
  turn_page hash_of view a context f out taken sent same is made came =
      came
      ∙ (λ k. comes_to a.session a.own a.seen context (stage_with a.own a.seen (is k))
      (map (Ask a.session) (map (λ c. sent.prefix ++ c.0 ∷ []) (to_ask (hash_of (same k).hash) (same k).own sent.prefix (children_of sent.page))))
      ((made ∙ ap (λ v. take_page (hash_of v.hash) v.own (has v.seen) (has context) (fetch_of f) sent.prefix sent.page sent.values) same) k))
      ∙ ap (λ st. page_at_stage (hash_of a.hash) a.session (stage_with a.own a.seen st) sent) (sym is)

  -- ---- what is sent again

  pub again_asked : (a : AskerValue Hash) (stage : StageValue Hash) (ms : List MessageValue) (b : Bool) → b ≡ is_asked stage → b ≡ true
      → ms ≡ Hello a.session a.seen ∷ []
      → ms ≡ again a.session (stage_with a.own a.seen stage)
  again_asked a asking.Asked ms b is on told = told
  again_asked a (asking.Fetching c f) ms b is on told = absurd cc
  again_asked a (asking.Complete c f) ms b is on told = absurd cc
  again_asked a asking.Over ms b is on told = absurd cc

  pub again_none : (a : AskerValue Hash) (stage : StageValue Hash) (ms : List MessageValue) (b : Bool) → b ≡ is_asked stage → b ≡ false
      → is_fetching stage ≡ false → ms ≡ []
      → ms ≡ again a.session (stage_with a.own a.seen stage)
  again_none a asking.Asked ms b is off out told = absurd cc
  again_none a (asking.Fetching c f) ms b is off out told = absurd cc
  again_none a (asking.Complete c f) ms b is off out told = told
  again_none a asking.Over ms b is off out told = told

  pub again_asks : (a : AskerValue Hash) (stage : StageValue Hash) (context : ContextValue) (f : FetchingValue Hash) (ms : List MessageValue)
      (ps : List (List ℕ)) (s : SessionValue)
      → stage ≡ asking.Fetching context f → ms ≡ map (Ask s) ps → s ≡ a.session → ps ≡ map (λ e. e.0) (finite.entries f.waiting)
      → ms ≡ again a.session (stage_with a.own a.seen stage)
  again_asks a stage context f ms ps s is told same those = told ∙ (λ k. map (Ask (same k)) (those k))
      ∙ ap (λ st. again a.session (stage_with a.own a.seen st)) (sym is)

-- a session of one name is tested first
pub by_session : (s t : SessionValue) (b : Bool) (x y : StateAndStep) → b ≡ same_session s t → b ≡ true → x ≡ cond (same_session s t) x y
by_session s t b x y is on = ap (λ c. cond c x y) (sym on ∙ is)

-- ---- a session that its answerer does not keep

module _ {Hash : Type 0} where
  gone_ends : (a : AskerValue Hash) (stage : StageValue Hash) (over : Bool) → over ≡ is_over stage → over ≡ false
      → (at_stage a.session Ended, IsGone) ≡ gone_at a.session (stage_with a.own a.seen stage)
  gone_ends a asking.Asked over is off = refl
  gone_ends a (asking.Fetching c f) over is off = refl
  gone_ends a (asking.Complete c b) over is off = absurd cc
  gone_ends a asking.Over over is off = absurd cc

  pub gone_turn : (a next : AskerValue Hash) (t : SessionValue) (b over : Bool) → b ≡ same_session a.session t → b ≡ true → over ≡ is_over a.stage
      → over ≡ false
      → next ≡ record a { stage = asking.Over }
      → (asker_state next, IsGone) ≡ cond (same_session a.session t) (gone_at a.session (stage_with a.own a.seen a.stage)) (asker_state a, Ignored)
  gone_turn a next t b over same on is off made =
      ap (λ n. (asker_state n, IsGone)) made ∙ gone_ends a a.stage over is off
      ∙ by_session a.session t b (gone_at a.session (stage_with a.own a.seen a.stage)) (asker_state a, Ignored) same on

  -- ---- an asker of the parts that another had is that one

  pub comes_back : (a : AskerValue Hash) (s : SessionValue) (hash : Hash) (own : Held) (seen : ContextValue) (was stage : StageValue Hash)
      → a ≡ record { session = s; hash = hash; own = own; seen = seen; stage = was } → was ≡ stage → has_completed stage ≡ false
      → (a ≡ record { session = s; hash = hash; own = own; seen = seen; stage = stage }) × (has_completed a.stage ≡ false)
  comes_back a s hash own seen was stage made is off =
      let same : a ≡ record { session = s; hash = hash; own = own; seen = seen; stage = stage } = made
      ∙ (λ k. record { session = s; hash = hash; own = own; seen = seen; stage = is k }) in
      (same, ap (λ (b : AskerValue Hash). has_completed b.stage) same ∙ off)

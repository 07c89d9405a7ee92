-- A world whose replicas are kept for when they crash, from one event to the next: over plain variables.
use Rattle.std.proofs.Common.{◌≡◌, ◌⊎◌, inl, inr, ℕ, ◌+◌, ◌==◌, nat_lt, Bool, true, false, cond, List, [], ◌∷◌, ◌++◌, map, length, Option, Some, None, is_some}
use Rattle.std.proofs.Common.{refl, sym, ap, ◌∙◌, subst, arith, length-append}
use Rattle.std.proofs.lemmas.List.{length-map, map-append}
use Rattle.std.specs.Prelude.{IsSome, not, filter, ◌&&◌, ◌||◌}
use Rattle.std.specs.BTreeMap.{BTreeMap, get}
use Rattle.std.specs.Ordering.{nat_cmp}
use Rattle.op_model.specs.World.{is_among}
use Rattle.replica_model.specs.Crashing.{Saving, Passing, Saves, Crashes, Shows, may_be_lost, restarted}
use Rattle.replica_model.specs.Happened.{Happened}
use Rattle.replica_model.specs.Laws.{replica_of}
use Rattle.replica_model.specs.Replica.{Replica, restarts}
use Rattle.replica_model.specs.World.{World, Message, Event, Node, At, Deliver, is_node, nothing, Happens}
use Rattle.replica_model.proofs.Telling.{leads_run}
use Rattle.replica_core.specs.Meaning.{ReplicaValue, hash_in, meaning}
use Rattle.replica_world.specs.Happening.{event_value, happened_value}
use Rattle.replica_world.specs.Held.{happened_in, is_act, after, goes_further, is_saved_with, occurrence, held_in, IsKept}
use Rattle.replica_world.specs.Keeping.{IsWorld, Makes, WorldValue, past_of}
use Rattle.replica_world.specs.Kept.{accepted_value, saves_in, back_in, HasPlace, IsReady, SavedOnce, Settles, Notes}
use Rattle.replica_world.specs.Refused.{IsNodeAfter}
use Rattle.replica_world.specs.Replaces.{Replaces}
use Rattle.replica_model.specs.Spelled.{AreSpelled}
use Rattle.replica_world.specs.declared.accepted.Accepted.{Accepted}
use Rattle.replica_world.specs.declared.recovery.Recovery.{Recovery}
use Rattle.replica_world.proofs.Crashed.{shown, noted, happened_held, held_same, held_saving, kept_saving, held_passing, kept_passing, held_saves, kept_saved}
use Rattle.replica_world.proofs.Crashed.{held_crashes, kept_crashed, world_crashed, stays, happened_after, saving_keeps}
use Rattle.replica_world.proofs.Happened.{count, event_kept, keeps_any}
use Rattle.replica_world.proofs.Kept.{keeps_at}
use Rattle.replica_world.proofs.Systems.{Did, did}

some_of : {X : Type 0} (o : Option X) → IsSome o → (x : X) × (o ≡ Some x)
some_of None some = absurd cc
some_of (Some x) some = (x, refl)

is_there : {X : Type 0} (o : Option X) → is_some o ≡ true → IsSome o
is_there None is = absurd cc
is_there (Some x) is = refl

-- ---- what happened by itself

pub happened_by : {A : Type 0} (items : List (Accepted A)) → map (λ a. a.0) (map accepted_value items) ≡ map happened_value items
happened_by [] = refl
happened_by (a ∷ items) = ap (λ hs. happened_value a ∷ hs) (happened_by items)

pub stay_by : {A : Type 0} (saves : ℕ → ℕ) (name : ℕ) (items : List (Accepted A))
    → map accepted_value (filter (λ a. not (is_act name (event_value a.event) && not (nat_lt a.saves (saves name)))) items)
    ≡ filter (stays saves name) (map accepted_value items)
stay_by saves name [] = refl
stay_by saves name (a ∷ items) = by (not (is_act name (event_value a.event) && not (nat_lt a.saves (saves name)))) (stay_by saves name items)
  where
    by : (b : Bool) → map accepted_value (filter (λ x. not (is_act name (event_value x.event) && not (nat_lt x.saves (saves name)))) items)
        ≡ filter (stays saves name) (map accepted_value items)
        → map accepted_value (cond b (a ∷ filter (λ x. not (is_act name (event_value x.event) && not (nat_lt x.saves (saves name)))) items)
        (filter (λ x. not (is_act name (event_value x.event) && not (nat_lt x.saves (saves name)))) items))
        ≡ cond b (accepted_value a ∷ filter (stays saves name) (map accepted_value items)) (filter (stays saves name) (map accepted_value items))
    by true same = ap (λ rows. accepted_value a ∷ rows) same
    by false same = same

module _ {Hash A : Type 0} (hash_of : Hash → List ℕ → ℕ) (hash : Hash) (replicas : BTreeMap ℕ (ReplicaValue Hash)) (messages : List (List ℕ))
    (kept : BTreeMap ℕ (Recovery Hash A)) (items : List (Accepted A))
    (world : IsWorld hash_of hash replicas messages (happened_in (held_in (saves_in kept) (map accepted_value items))))
    (lives : IsKept (hash_of hash) (saves_in kept) (back_in kept) (map accepted_value items)) where
  shows : Shows world.world lives.system
  shows = shown (hash_of hash) (saves_in kept) (back_in kept) (map accepted_value items) lives world.world
      (leads_run (hash_of hash) (happened_in (held_in (saves_in kept) (map accepted_value items))) nothing world.world world.leads)

  -- it is kept what some are to come back from
  pub kept_noted : (now : BTreeMap ℕ (Recovery Hash A)) → Notes replicas kept now
      → IsKept (hash_of hash) (saves_in now) (back_in now) (map accepted_value items)
  kept_noted now notes =
      noted (hash_of hash) (saves_in kept) (back_in kept) (map accepted_value items) lives (saves_in now) (back_in now) world.world shows (λ n. (notes n).0)
      (λ n. by n (notes n).1)
    where
      by : (n : ℕ) → (back_in now n ≡ back_in kept n)
          ⊎ ((back_in kept n ≡ None) × ((r : ReplicaValue Hash) × (get nat_cmp replicas n ≡ Some r) × (back_in now n ≡ Some (restarts (meaning r)))))
          → (back_in now n ≡ back_in kept n) ⊎ ((back_in kept n ≡ None) × (back_in now n ≡ Some (restarts (world.world.replica n))))
      by n (inl same) = inl same
      by n (inr (none, (r, at, some))) = inr (none, some ∙ ap (λ q. Some (restarts q)) (world.keeps.means n r at))

  pub held_noted : (now : BTreeMap ℕ (Recovery Hash A)) → Notes replicas kept now
      → held_in (saves_in now) (map accepted_value items) ≡ held_in (saves_in kept) (map accepted_value items)
  held_noted now notes = held_same (saves_in kept) (saves_in now) (λ n. (notes n).0) (map accepted_value items)

  -- an event that happened
  module _ (new : BTreeMap ℕ (ReplicaValue Hash)) (more : List (List ℕ)) (h : Happened)
      (makes : Makes hash_of hash replicas messages h.event h.answer new more) (counted : length more ≡ length messages + h.sent)
      (ready : IsReady replicas kept h.event) where
    v : World
    v = (makes world.world world.keeps).0

    did_so : Did (hash_of hash) lives.system h.event h.answer v
    unfolding v
    did_so = did (hash_of hash) world.world lives.system shows h.event h.answer v (makes world.world world.keeps).1

    here : (name : ℕ) → is_node world.world name ≡ true → IsSome (get nat_cmp replicas name)
    here name is = is_there (get nat_cmp replicas name) (world.keeps.there name ∙ is)

    ready_at : (u : World) → Happens (hash_of hash) world.world h.event h.answer u → IsReady replicas kept h.event → HasPlace kept (replica_of h.event)
    ready_at = by h.event
      where
        by : (x : Event) (u : World) → Happens (hash_of hash) world.world x h.answer u → IsReady replicas kept x → HasPlace kept (replica_of x)
        by (Node name) u happens is = is
        by (At name c) u happens is = (is (here name happens.0)).0
        by (Deliver number name) u happens is = (is (here name happens.0)).0

    pub has_place : HasPlace kept (replica_of h.event)
    has_place = ready_at (makes world.world world.keeps).0 (makes world.world world.keeps).1 ready

    back_at : (x : Event) (b : Bool) (u : World) → Happens (hash_of hash) world.world x h.answer u → IsReady replicas kept x
        → (not (may_be_lost x) || b) ≡ false
        → (r : Replica) × (back_in kept (replica_of x) ≡ Some r)
    back_at (Node name) b u happens is none = absurd cc
    back_at (At name c) b u happens is none = some_of (back_in kept name) (is (here name happens.0)).1
    back_at (Deliver number name) b u happens is none = some_of (back_in kept name) (is (here name happens.0)).1

    sent_so : length did_so.out ≡ h.sent
    unfolding v
    sent_so =
        let mails = λ (x : Message). x.mail in
        let before : length messages ≡ length lives.system.messages =
        count hash replicas messages world.world world.keeps ∙ sym (length-map world.world.messages mails) ∙ ap length shows.messages in
        let now : length more ≡ length lives.system.messages + length did_so.out =
        count hash new more (makes world.world world.keeps).0 (makes world.world world.keeps).2
        ∙ sym (length-map (makes world.world world.keeps).0.messages mails) ∙ ap length did_so.shows.messages
        ∙ length-append lives.system.messages did_so.out in
        omega (arith, before, now, counted)

    module _ (later : BTreeMap ℕ (Recovery Hash A)) where
      pub event_lives : Settles (is_saved_with h) kept later (replica_of h.event)
          → IsKept (hash_of hash) (saves_in later) (back_in later) (map accepted_value items ++ (h, saves_in kept (replica_of h.event)) ∷ [])
      event_lives settles = by (is_saved_with h) refl settles
        where
          by : (b : Bool) → is_saved_with h ≡ b → Settles b kept later (replica_of h.event)
              → IsKept (hash_of hash) (saves_in later) (back_in later) (map accepted_value items ++ (h, saves_in kept (replica_of h.event)) ∷ [])
          by true is once =
              kept_saving (hash_of hash) (saves_in kept) (back_in kept) (map accepted_value items) lives (saves_in later) (back_in later)
              (replica_of h.event) once h v refl did_so sent_so
          by false is same =
              let kept_at = back_at h.event (not (h.sent == 0) || goes_further h.answer) (makes world.world world.keeps).0
              (makes world.world world.keeps).1 ready is in
              subst (λ m. IsKept (hash_of hash) (saves_in m) (back_in m) (map accepted_value items ++ (h, saves_in kept (replica_of h.event)) ∷ [])) (sym same)
              (kept_passing (hash_of hash) (saves_in kept) (back_in kept) (map accepted_value items) lives h v is did_so sent_so kept_at.0 kept_at.1)

      pub event_held : Settles (is_saved_with h) kept later (replica_of h.event)
          → held_in (saves_in later) (map accepted_value items ++ (h, saves_in kept (replica_of h.event)) ∷ [])
          ≡ after (held_in (saves_in kept) (map accepted_value items)) (occurrence h)
      event_held settles = by (is_saved_with h) settles
        where
          by : (b : Bool) → Settles b kept later (replica_of h.event)
              → held_in (saves_in later) (map accepted_value items ++ (h, saves_in kept (replica_of h.event)) ∷ [])
              ≡ after (held_in (saves_in kept) (map accepted_value items)) (cond b (Saving h) (Passing h))
          by true once = held_saving (hash_of hash) (saves_in kept) (back_in kept) (map accepted_value items) lives (saves_in later) (back_in later)
              (replica_of h.event) once h refl
          by false same = ap (λ m. held_in (saves_in m) (map accepted_value items ++ (h, saves_in kept (replica_of h.event)) ∷ [])) same
              ∙ held_passing (hash_of hash) (saves_in kept) (back_in kept) (map accepted_value items) lives h

  -- a replica that is saved
  module _ (later : BTreeMap ℕ (Recovery Hash A)) (name : ℕ) (once : SavedOnce kept later name) where
    pub save_lives : IsKept (hash_of hash) (saves_in later) (back_in later) (map accepted_value items)
    save_lives = kept_saved (hash_of hash) (saves_in kept) (back_in kept) (map accepted_value items) lives (saves_in later) (back_in later) name once

    pub save_held : held_in (saves_in later) (map accepted_value items) ≡ after (held_in (saves_in kept) (map accepted_value items)) (Saves name)
    save_held = held_saves (hash_of hash) (saves_in kept) (back_in kept) (map accepted_value items) lives (saves_in later) (back_in later) name once

    -- ---- one that crashed, and is back
    pub crash_held : held_in (saves_in later) (filter (stays (saves_in kept) name) (map accepted_value items) ++ (restarted name, saves_in kept name) ∷ [])
        ≡ after (held_in (saves_in kept) (map accepted_value items)) (Crashes name)
    crash_held = held_crashes (hash_of hash) (saves_in kept) (back_in kept) (map accepted_value items) lives (saves_in later) (back_in later) name once

    module _ (new : BTreeMap ℕ (ReplicaValue Hash)) (before after_it : ReplicaValue Hash) (replaces : Replaces replicas new name before after_it) where
      there : is_among lives.system.nodes name ≡ true
      there = ap (λ ns. is_among ns name) (sym shows.nodes) ∙ sym (world.keeps.there name) ∙ ap is_some replaces.was

      pub crash_lives : IsKept (hash_of hash) (saves_in later) (back_in later)
          (filter (stays (saves_in kept) name) (map accepted_value items) ++ (restarted name, saves_in kept name) ∷ [])
      crash_lives = kept_crashed (hash_of hash) (saves_in kept) (back_in kept) (map accepted_value items) lives (saves_in later) (back_in later) name once there

      pub crash_world : hash_in after_it ≡ hash → back_in kept name ≡ Some (meaning after_it)
          → IsWorld hash_of hash new messages
          (happened_in (held_in (saves_in later) (filter (stays (saves_in kept) name) (map accepted_value items)
          ++ (restarted name, saves_in kept name) ∷ [])))
      crash_world hashed came =
          let w = world.world in
          let told = world_crashed (hash_of hash) (saves_in kept) (back_in kept) (map accepted_value items) lives (saves_in later) (back_in later)
          name once there w shows in
          let means = lives.saved name (meaning after_it) came in
          record {
            world = told.0;
            leads = told.1;
            keeps = keeps_at hash replicas new messages messages w world.keeps name before after_it replaces
                (hashed ∙ sym (world.keeps.hashed name before replaces.was)) told.0 told.2
                (λ n. told.3 n ∙ ap (λ r. cond (n == name) r (w.replica n)) (sym means))
                (subst (AreSpelled messages) (sym told.4) world.keeps.spelled);
          }

-- ---- the invariant of a world as a whole

abbrev pub IsAlive : {Hash A : Type 0} → (Hash → List ℕ → ℕ) → Hash → BTreeMap ℕ (ReplicaValue Hash) → List (List ℕ) → BTreeMap ℕ (Recovery Hash A)
    → List (Accepted A) → Type 0
IsAlive hash_of hash replicas messages kept items =
    IsWorld hash_of hash replicas messages (happened_in (held_in (saves_in kept) (map accepted_value items)))
    × IsKept (hash_of hash) (saves_in kept) (back_in kept) (map accepted_value items)

abbrev pub seen : {Hash A : Type 0} → Hash → List (List ℕ) → BTreeMap ℕ (Recovery Hash A) → List (Accepted A) → WorldValue Hash
seen hash messages kept items = record { hash = hash; messages = messages; held = held_in (saves_in kept) (map accepted_value items) }

module _ {Hash A : Type 0} (hash_of : Hash → List ℕ → ℕ) (hash : Hash) (replicas : BTreeMap ℕ (ReplicaValue Hash)) (messages : List (List ℕ))
    (kept : BTreeMap ℕ (Recovery Hash A)) (items : List (Accepted A))
    (alive : IsAlive hash_of hash replicas messages kept items) where
  -- it is kept what some are to come back from
  pub alive_noted : (now : BTreeMap ℕ (Recovery Hash A)) → Notes replicas kept now → IsAlive hash_of hash replicas messages now items
  alive_noted now notes = (
    subst (λ hs. IsWorld hash_of hash replicas messages (happened_in hs))
        (sym (held_noted hash_of hash replicas messages kept items alive.0 alive.1 now notes)) alive.0,
    kept_noted hash_of hash replicas messages kept items alive.0 alive.1 now notes,
  )

  pub seen_noted : (now : BTreeMap ℕ (Recovery Hash A)) → Notes replicas kept now → seen hash messages now items ≡ seen hash messages kept items
  seen_noted now notes = ap (λ hs. record { hash = hash; messages = messages; held = hs }) (held_noted hash_of hash replicas messages kept items alive.0 alive.1 now notes)

  -- whether a replica is there
  pub is_known : (name : ℕ) (b : Bool) → b ≡ is_some (get nat_cmp replicas name) → IsNodeAfter (hash_of hash) (past_of (seen hash messages kept items)) name b
  is_known name b is w runs =
      let keeps = keeps_any hash_of hash replicas messages (happened_in (held_in (saves_in kept) (map accepted_value items))) alive.0 w runs in
      sym (keeps.there name) ∙ sym is

  -- a replica that is saved
  pub alive_saved : (later : BTreeMap ℕ (Recovery Hash A)) (name : ℕ) → SavedOnce kept later name → IsAlive hash_of hash replicas messages later items
  alive_saved later name once = (
    subst (IsWorld hash_of hash replicas messages)
        (sym (ap happened_in (save_held hash_of hash replicas messages kept items alive.0 alive.1 later name once)
        ∙ saving_keeps name (held_in (saves_in kept) (map accepted_value items)))) alive.0,
    save_lives hash_of hash replicas messages kept items alive.0 alive.1 later name once,
  )

  pub seen_saved : (later : BTreeMap ℕ (Recovery Hash A)) (name : ℕ) → SavedOnce kept later name
      → seen hash messages later items ≡ record { hash = hash; messages = messages; held = after (seen hash messages kept items).held (Saves name) }
  seen_saved later name once = ap (λ hs. record { hash = hash; messages = messages; held = hs })
      (save_held hash_of hash replicas messages kept items alive.0 alive.1 later name once)

  -- an event that happened
  module _ (new : BTreeMap ℕ (ReplicaValue Hash)) (more : List (List ℕ)) (h : Happened)
      (makes : Makes hash_of hash replicas messages h.event h.answer new more) (counted : length more ≡ length messages + h.sent)
      (ready : IsReady replicas kept h.event) (later : BTreeMap ℕ (Recovery Hash A))
      (settles : Settles (is_saved_with h) kept later (replica_of h.event)) (a : Accepted A)
      (is : accepted_value a ≡ (h, saves_in kept (replica_of h.event))) where
    rows_now : map accepted_value (items ++ a ∷ []) ≡ map accepted_value items ++ (h, saves_in kept (replica_of h.event)) ∷ []
    rows_now = map-append accepted_value items (a ∷ []) ∙ ap (λ r. map accepted_value items ++ r ∷ []) is

    held_now : held_in (saves_in later) (map accepted_value (items ++ a ∷ [])) ≡ after (held_in (saves_in kept) (map accepted_value items)) (occurrence h)
    held_now = ap (held_in (saves_in later)) rows_now
        ∙ event_held hash_of hash replicas messages kept items alive.0 alive.1 new more h makes counted ready later settles

    pub alive_event : IsAlive hash_of hash new more later (items ++ a ∷ [])
    alive_event = (
      subst (IsWorld hash_of hash new more)
          (sym (ap happened_in held_now ∙ happened_after (held_in (saves_in kept) (map accepted_value items)) h))
          (event_kept hash_of hash replicas messages (happened_in (held_in (saves_in kept) (map accepted_value items))) alive.0 new more h.event h.answer
          h.sent makes counted),
      subst (IsKept (hash_of hash) (saves_in later) (back_in later)) (sym rows_now)
          (event_lives hash_of hash replicas messages kept items alive.0 alive.1 new more h makes counted ready later settles),
    )

    pub seen_event : seen hash more later (items ++ a ∷ [])
        ≡ record { hash = hash; messages = more; held = after (seen hash messages kept items).held (occurrence h) }
    seen_event = ap (λ hs. record { hash = hash; messages = more; held = hs }) held_now

  -- a replica that crashed, and is back
  module _ (later : BTreeMap ℕ (Recovery Hash A)) (name : ℕ) (once : SavedOnce kept later name) (left : List (Accepted A))
      (is_left_of : left ≡ filter (λ x. not (is_act name (event_value x.event) && not (nat_lt x.saves (saves_in kept name)))) items) (a : Accepted A)
      (is : accepted_value a ≡ (restarted name, saves_in kept name)) where
    rows_left : map accepted_value (left ++ a ∷ []) ≡ filter (stays (saves_in kept) name) (map accepted_value items)
        ++ (restarted name, saves_in kept name) ∷ []
    rows_left = map-append accepted_value left (a ∷ []) ∙ (λ i. (ap (map accepted_value) is_left_of ∙ stay_by (saves_in kept) name items) i ++ is i ∷ [])

    pub alive_crashed : (new : BTreeMap ℕ (ReplicaValue Hash)) (before after_it : ReplicaValue Hash) → Replaces replicas new name before after_it
        → hash_in after_it ≡ hash → back_in kept name ≡ Some (meaning after_it)
        → IsAlive hash_of hash new messages later (left ++ a ∷ [])
    alive_crashed new before after_it replaces hashed came = (
      subst (λ rows. IsWorld hash_of hash new messages (happened_in (held_in (saves_in later) rows))) (sym rows_left)
          (crash_world hash_of hash replicas messages kept items alive.0 alive.1 later name once new before after_it replaces hashed came),
      subst (IsKept (hash_of hash) (saves_in later) (back_in later)) (sym rows_left)
          (crash_lives hash_of hash replicas messages kept items alive.0 alive.1 later name once new before after_it replaces),
    )

    pub seen_crashed : seen hash messages later (left ++ a ∷ [])
        ≡ record { hash = hash; messages = messages; held = after (seen hash messages kept items).held (Crashes name) }
    seen_crashed = ap (λ hs. record { hash = hash; messages = messages; held = hs })
        (ap (held_in (saves_in later)) rows_left ∙ crash_held hash_of hash replicas messages kept items alive.0 alive.1 later name once)

-- the list that a world shows
pub seen_happened : {A : Type 0} (saves : ℕ → ℕ) (items : List (Accepted A))
    → happened_in (held_in saves (map accepted_value items)) ≡ map happened_value items
seen_happened saves items = happened_held saves (map accepted_value items) ∙ happened_by items

-- Each replica holds the state of what it has seen, unless pages or values met clash.
use Rattle.std.proofs.Common.{◌≡◌, ◌≢◌, ◌⊎◌, inl, inr, ℕ, ◌==◌, List, [], ◌∷◌, ◌++◌, Bool, true, false, Option, Some, None, cond, refl, sym, ap, ◌∙◌, subst}
use Rattle.std.specs.Prelude.{Contains}
use Rattle.std.proofs.lemmas.Bool.{false≢true, or_left, or_right}
use Rattle.std.specs.FinMap as finite
use Rattle.std.proofs.lemmas.List.Elements.{Contains-append_left, Contains-append_right}
use Rattle.dots.specs.Dot.{DotValue, same_dot}
use Rattle.op_model.specs.Made.{put_at, remove_at, remove_field_at, clear_at, erasure, IsPutAt}
use Rattle.op_model.specs.Meaning.{MapState, greater, state}
use Rattle.op_model.specs.Operation.{Operation, Wrote, Erased, NoReuse, IsPartOf, has, ids, known, writes, observed}
use Rattle.op_model.specs.State.{Same, join}
use Rattle.op_model.specs.World.{grown}
use Rattle.op_model.proofs.Dots.{same_dot-self, has-append}
use Rattle.op_model.proofs.Members.{at_head, nothing_in}
use Rattle.op_model.proofs.Fresh.{NoReuse-part, part_left, part_both, itself_part}
use Rattle.op_model.proofs.Making.{put_made, remove_made, field_remove_made, clear_made}
use Rattle.op_model.proofs.Pairs.{joins, grown-there, emptied-here, emptied-there, grown-here}
use Rattle.op_model.proofs.SameSets.{both_ways, state-same}
use Rattle.wire_form.specs.Session.{SessionValue}
use Rattle.prefix_digest.specs.MapOf.{IsMapOf, map_of, root_digest}
use Rattle.prefix_digest.specs.Page.{digest_at}
use Rattle.prefix_digest.proofs.MapsOf.{map_is, maps_one}
use Rattle.sync_model.specs.Closing.{held_state}
use Rattle.sync_model.specs.Differ.{Held}
use Rattle.sync_model.specs.Fetch.{Fetch}
use Rattle.sync_model.specs.Laws.{Taking, NoClash, Fetched}
use Rattle.sync_model.proofs.Ended.{done}
use Rattle.replica_model.specs.Mail.{Mail, Delta, Hello, Opening, Ask, Page, Gone}
use Rattle.replica_model.specs.Replica.{Replica, Open, open_numbered, makes, open_at}
use Rattle.replica_model.specs.Delivery.{Outcome, Turn, turn, delivered}
use Rattle.replica_model.specs.Step.{Call, Put, Remove, RemoveField, Clear, Flush, Retry, Abandon, Restart, Answer, Abandons, KnowsNone, IsCall}
use Rattle.replica_model.specs.Step as call
use Rattle.replica_model.specs.World.{World, Event, Node, At, Deliver, Snapshot, Met, nothing, learns, calls, own_of, ends, takes, taking_of, accepts}
use Rattle.replica_model.specs.World.{takes_page, is_sent, is_done, goes, Happens, Runs, Unclashed}
use Rattle.replica_model.specs.World as world
use Rattle.replica_model.specs.Laws.{IsSound, MeansMail, Headline, SameSeen}
use Rattle.replica_model.proofs.States.{same_is, is_same}
use Rattle.replica_model.proofs.Unchanged.{unchanged}
use Rattle.replica_model.proofs.Sound.{sound, sound_calls, made_stays, carried}
use Rattle.replica_model.proofs.Ties.{MailTie}
use Rattle.replica_model.proofs.Carried.{Ties, by_name, taken_ties, left_as_is, same_replicas}
use Rattle.replica_model.proofs.Calls.{mail_more, more_ties, called_ties}
use Rattle.replica_model.proofs.Ending.{Learns, Ending, Comes, comes}
use Rattle.replica_model.proofs.Fronts.{delivery, by_events, same_after_calls, none_at}

-- ---- what is said of a snapshot, of an ask and of a delta

abbrev pub SnapOf : SessionValue → List Operation → Held → (DotValue → Bool) → Type 0
SnapOf s S m c = (m ≡ map_of S) × (c ≡ has (known S))

abbrev pub AskedOf : World → ℕ → SessionValue → Held → (DotValue → Bool) → Type 0
AskedOf w name s own known_then = (S : List Operation) × IsPartOf S (w.seen name) × (own ≡ map_of S) × (known_then ≡ has (known S))

abbrev pub SendsOf : MapState → List Operation → Type 0
SendsOf d S = d ≡ state S

pub record Meant (hash_of : List ℕ → ℕ) (w : World) : Type 0 where
  pub ties : Ties hash_of SnapOf (AskedOf w) SendsOf w
  pub live : (name : ℕ) → (w.replica name).live ≡ state (w.seen name)
  pub group : (name : ℕ) → (w.replica name).group ≡ state (w.outgoing name)

-- what was seen grows
more_meant : (hash_of : List ℕ → ℕ) (w v : World) → ((n : ℕ) → IsPartOf (w.seen n) (v.seen n)) → Ties hash_of SnapOf (AskedOf w) SendsOf w
    → Ties hash_of SnapOf (AskedOf v) SendsOf w
more_meant hash_of w v grew =
    more_ties hash_of SnapOf SnapOf (AskedOf w) (AskedOf v) SendsOf SendsOf
    (λ s S m c h. h)
    (λ n s m c a. (a.0, λ o h. grew n o (a.1 o h), a.2, a.3))
    (λ d S h. h)
    w

grown_part : (b : Bool) (S more : List Operation) → IsPartOf S (grown b S more)
grown_part true S more = part_left S S more (itself_part S)
grown_part false S more = itself_part S

-- what is asked of the sets of a replica: they are part of one whole, in which no dot is used twice, and nothing that it is to send tells of no dot
pub record Fits (w : World) (name : ℕ) (whole : List Operation) : Type 0 where
  pub seen : IsPartOf (w.seen name) whole
  pub outgoing : IsPartOf (w.outgoing name) whole
  pub accepted : (s : SessionValue) → IsPartOf (w.accepted s).seen whole
  pub told : ¬ (Contains (w.outgoing name) (Erased []))
  pub once : NoReuse whole

-- those of a world are part of all that was made, before a call and after it
pub sound_fits : (w : World) → IsSound w → (name : ℕ) → Fits w name w.made
sound_fits w s name = record {
  seen = s.sets.seen name;
  outgoing = s.sets.outgoing name;
  accepted = s.accepted;
  told = λ h. s.sets.told (s.sets.outgoing name (Erased []) h);
  once = s.sets.no_reuse;
}

sound_fits_then : (w : World) → IsSound w → (name : ℕ) (c : Call) → Fits w name (calls name c w).made
sound_fits_then w s name c = record {
  seen = made_stays w name c (w.seen name) (s.sets.seen name);
  outgoing = made_stays w name c (w.outgoing name) (s.sets.outgoing name);
  accepted = λ t. made_stays w name c (w.accepted t).seen (s.accepted t);
  told = λ h. s.sets.told (s.sets.outgoing name (Erased []) h);
  once = (sound_calls w name c s).sets.no_reuse;
}

pub seen_once : (w : World) → IsSound w → (name : ℕ) → NoReuse (w.seen name)
seen_once w s name = NoReuse-part (w.seen name) w.made (s.sets.seen name) s.sets.no_reuse

-- ---- calls

-- a group that knows no dot is to send nothing
pub nothing_outgoing : (T : List Operation) → ¬ (Contains T (Erased [])) → (g : MapState) → g ≡ state T → KnowsNone g → T ≡ []
nothing_outgoing T told g is none = by T refl
  where
    knows : (dot : DotValue) → has (known T) dot ≡ false
    knows dot = sym (ap (λ (p : MapState). p.has dot) is) ∙ none dot

    by : (S : List Operation) → T ≡ S → T ≡ []
    by [] e = e
    by (Wrote v ∷ S) e =
        absurd (false≢true (sym (knows v.id) ∙ ap (λ U. has (known U) v.id) e
        ∙ or_left (same_dot v.id v.id) (has (ids (writes S) ++ observed (Wrote v ∷ S)) v.id) (same_dot-self v.id)))
    by (Erased [] ∷ S) e = absurd (told (subst (λ U. Contains U (Erased [])) (sym e) (at_head (Erased []) S)))
    by (Erased (d ∷ ds) ∷ S) e =
        let there : has (known (Erased (d ∷ ds) ∷ S)) d ≡ true =
        has-append (ids (writes S)) ((d ∷ ds) ++ observed S) d
        ∙ or_right (has (ids (writes S)) d) (has ((d ∷ ds) ++ observed S) d) (or_left (same_dot d d) (has (ds ++ observed S) d) (same_dot-self d)) in
        absurd (false≢true (sym (knows d) ∙ ap (λ U. has (known U) d) e ∙ there))

module _ (hash_of : List ℕ → ℕ) (w : World) (name : ℕ) (whole : List Operation) (fits : Fits w name whole) (meant : Meant hash_of w) where
  -- the replica's live state and group after a call are those of what it has seen then and is to send
  abbrev Follows : Call → Replica → Type 0
  Follows c new = (new.live ≡ state ((calls name c w).seen name)) × (new.group ≡ state ((calls name c w).outgoing name))

  -- what it made, where all that it has seen then is part of the whole
  more_part : (more : List Operation) → IsPartOf (grown (name == name) (w.seen name) more) whole → IsPartOf more whole
  more_part more all o h = all o (subst (λ S. Contains S o) (sym (grown-here name (w.seen name) more)) (Contains-append_right (w.seen name) more o h))

  -- a delta that it made
  made : (more : List Operation) → IsPartOf (grown (name == name) (w.seen name) more) whole → (d : MapState) → Same d (state more)
      → (join greater (w.replica name).live d ≡ state (grown (name == name) (w.seen name) more))
      × (join greater (w.replica name).group d ≡ state (grown (name == name) (w.outgoing name) more))
  made more all d same = (
    same_is _ _ (joins (w.seen name) more whole (w.replica name).live d fits.once fits.seen (more_part more all) (is_same _ _ (meant.live name)) same)
        ∙ ap state (sym (grown-here name (w.seen name) more)),
    same_is _ _ (joins (w.outgoing name) more whole (w.replica name).group d fits.once fits.outgoing (more_part more all) (is_same _ _ (meant.group name)) same)
        ∙ ap state (sym (grown-here name (w.outgoing name) more)),
  )

  with_made : (c : Call) (new : Replica) (d : MapState) → new ≡ makes (w.replica name) d
      → (join greater (w.replica name).live d ≡ state ((calls name c w).seen name))
      × (join greater (w.replica name).group d ≡ state ((calls name c w).outgoing name)) → Follows c new
  with_made c new d n both = (ap (λ (x : Replica). x.live) n ∙ both.0, ap (λ (x : Replica). x.group) n ∙ both.1)

  named : (w.replica name).name ≡ name
  named = meant.ties.named name

  still : (c : Call) (new : Replica) → new.live ≡ (w.replica name).live → new.group ≡ (w.replica name).group → w.seen name ≡ (calls name c w).seen name
      → w.outgoing name ≡ (calls name c w).outgoing name → Follows c new
  still c new l g s o = (l ∙ meant.live name ∙ ap state s, g ∙ meant.group name ∙ ap state o)

  abandoned : (o : Option Open) (number : ℕ) (new : Replica) (answer : Answer) → Abandons (w.replica name) o new answer → Follows (Abandon number) new
  abandoned None number new answer (n, a) = still (Abandon number) new (ap (λ (x : Replica). x.live) n) (ap (λ (x : Replica). x.group) n) refl refl
  abandoned (Some o) number new answer (n, a) = still (Abandon number) new (ap (λ (x : Replica). x.live) n) (ap (λ (x : Replica). x.group) n) refl refl

  follows : (c : Call) → IsPartOf ((calls name c w).seen name) whole → (new : Replica) (answer : Answer) (out : List Mail)
      → IsCall (w.replica name) c new answer out → Follows c new
  follows (Put place value) all new answer out (v, put, lt, n, a, o) =
      let put_here : IsPutAt (w.replica name).live name place value v = subst (λ x. IsPutAt (w.replica name).live x place value v) named put in
      with_made (Put place value) new (state (Wrote v ∷ [])) n
      (made (put_at (w.seen name) name place value) all (state (Wrote v ∷ []))
      (put_made (w.seen name) (w.replica name).live (is_same _ _ (meant.live name)) name place value v put_here))
  follows (Remove key) all new answer out (over, just, n, a, o) =
      with_made (Remove key) new (state (erasure over)) n
      (made (remove_at (w.seen name) key) all (state (erasure over))
      (remove_made (w.seen name) (w.replica name).live (is_same _ _ (meant.live name)) key over just))
  follows (RemoveField place) all new answer out (over, just, n, a, o) =
      with_made (RemoveField place) new (state (erasure over)) n
      (made (remove_field_at (w.seen name) place) all (state (erasure over))
      (field_remove_made (w.seen name) (w.replica name).live (is_same _ _ (meant.live name)) place over
      (λ dot. both_ways (has over dot) (Rattle.std.specs.Prelude.is_some ((w.replica name).live.at place dot)) (λ h. (just dot).0 h) (λ h. (just dot).1 h))))
  follows Clear all new answer out (over, just, n, a, o) =
      with_made Clear new (state (erasure over)) n
      (made (clear_at (w.seen name)) all (state (erasure over)) (clear_made (w.seen name) (w.replica name).live (is_same _ _ (meant.live name)) over just))
  follows Flush all new answer out (a, inl (none, n, o)) =
      still Flush new (ap (λ (x : Replica). x.live) n) (ap (λ (x : Replica). x.group) n) refl
      (nothing_outgoing (w.outgoing name) fits.told (w.replica name).group (meant.group name) none ∙ sym (emptied-here name (w.outgoing name)))
  follows Flush all new answer out (a, inr (some, n, o)) = (
    ap (λ (x : Replica). x.live) n ∙ meant.live name,
    ap (λ (x : Replica). x.group) n ∙ ap state (sym (emptied-here name (w.outgoing name))),
  )
  follows (call.Ask peer) all new answer out (own, is, few, left, n, a, o) =
      still (call.Ask peer) new (ap (λ (x : Replica). x.live) n) (ap (λ (x : Replica). x.group) n) refl refl
  follows (Retry number) all new answer out (n, a, o) = still (Retry number) new (ap (λ (x : Replica). x.live) n) (ap (λ (x : Replica). x.group) n) refl refl
  follows (Abandon number) all new answer out (step, o) = abandoned (open_numbered (w.replica name).sessions number) number new answer step
  follows Restart all new answer out (n, a, o) = still Restart new (ap (λ (x : Replica). x.live) n) (ap (λ (x : Replica). x.group) n) refl refl

-- a call leaves what another replica has seen and is to send, and what it has seen itself only grows
pub seen_elsewhere : (w : World) (name : ℕ) (c : Call) (n : ℕ) → n ≢ name → ((calls name c w).seen n ≡ w.seen n) × ((calls name c w).outgoing n ≡ w.outgoing n)
seen_elsewhere w name (Put place value) n apart = (
  grown-there n name (w.seen n) (put_at (w.seen name) name place value) apart,
  grown-there n name (w.outgoing n) (put_at (w.seen name) name place value) apart,
)
seen_elsewhere w name (Remove key) n apart = (
  grown-there n name (w.seen n) (remove_at (w.seen name) key) apart,
  grown-there n name (w.outgoing n) (remove_at (w.seen name) key) apart,
)
seen_elsewhere w name (RemoveField place) n apart = (
  grown-there n name (w.seen n) (remove_field_at (w.seen name) place) apart,
  grown-there n name (w.outgoing n) (remove_field_at (w.seen name) place) apart,
)
seen_elsewhere w name Clear n apart = (
  grown-there n name (w.seen n) (clear_at (w.seen name)) apart,
  grown-there n name (w.outgoing n) (clear_at (w.seen name)) apart,
)
seen_elsewhere w name Flush n apart = (refl, emptied-there n name (w.outgoing n) apart)
seen_elsewhere w name (call.Ask peer) n apart = (refl, refl)
seen_elsewhere w name (Retry number) n apart = (refl, refl)
seen_elsewhere w name (Abandon number) n apart = (refl, refl)
seen_elsewhere w name Restart n apart = (refl, refl)

calls_grow : (w : World) (name : ℕ) (c : Call) (n : ℕ) → IsPartOf (w.seen n) ((calls name c w).seen n)
calls_grow w name (Put place value) n = grown_part (n == name) (w.seen n) (put_at (w.seen name) name place value)
calls_grow w name (Remove key) n = grown_part (n == name) (w.seen n) (remove_at (w.seen name) key)
calls_grow w name (RemoveField place) n = grown_part (n == name) (w.seen n) (remove_field_at (w.seen name) place)
calls_grow w name Clear n = grown_part (n == name) (w.seen n) (clear_at (w.seen name))
calls_grow w name Flush n = itself_part (w.seen n)
calls_grow w name (call.Ask peer) n = itself_part (w.seen n)
calls_grow w name (Retry number) n = itself_part (w.seen n)
calls_grow w name (Abandon number) n = itself_part (w.seen n)
calls_grow w name Restart n = itself_part (w.seen n)

-- each replica's live state by name, where one changed
live_by_name : (old : ℕ → Replica) (name : ℕ) (new : Replica) (seen before : ℕ → List Operation) → new.live ≡ state (seen name)
    → ((n : ℕ) → n ≢ name → seen n ≡ before n) → ((n : ℕ) → (old n).live ≡ state (before n))
    → (n : ℕ) → (cond (n == name) new (old n)).live ≡ state (seen n)
live_by_name old name new seen before here there was = by_name (λ n r. r.live ≡ state (seen n)) name new old here
    (λ n apart. was n ∙ ap state (sym (there n apart)))

group_by_name : (old : ℕ → Replica) (name : ℕ) (new : Replica) (out before : ℕ → List Operation) → new.group ≡ state (out name)
    → ((n : ℕ) → n ≢ name → out n ≡ before n) → ((n : ℕ) → (old n).group ≡ state (before n))
    → (n : ℕ) → (cond (n == name) new (old n)).group ≡ state (out n)
group_by_name old name new out before here there was = by_name (λ n r. r.group ≡ state (out n)) name new old here
    (λ n apart. was n ∙ ap state (sym (there n apart)))

pub meant_call : (hash_of : List ℕ → ℕ) (w : World) (name : ℕ) (c : Call) (new : Replica) (answer : Answer) (out : List Mail) (whole : List Operation)
    → Fits w name whole
    → IsPartOf ((calls name c w).seen name) whole → Meant hash_of w → IsCall (w.replica name) c new answer out
    → Meant hash_of (goes name new out (w.outgoing name) (calls name c w))
meant_call hash_of w name c new answer out whole fits all meant step =
    let u = calls name c w in
    let v = goes name new out (w.outgoing name) u in
    let on = follows hash_of w name whole fits meant c all new answer out step in
    record {
      ties = called_ties hash_of SnapOf (AskedOf v) SendsOf w name (more_meant hash_of w v (calls_grow w name c) meant.ties) (meant.group name) c
          (λ peer own is_ask is. (
            w.seen name,
            calls_grow w name c name,
            map_is (w.seen name) (NoReuse-part (w.seen name) whole fits.seen fits.once) own (w.replica name).live is (is_same _ _ (meant.live name)),
            ap (λ (p : MapState). p.has) (meant.live name),
          ))
          new answer out step;
      live = subst (λ f. (n : ℕ) → (cond (n == name) new (f n)).live ≡ state (u.seen n)) (sym (same_after_calls hash_of w name c))
          (live_by_name w.replica name new u.seen w.seen on.0 (λ n a. (seen_elsewhere w name c n a).0) meant.live);
      group = subst (λ f. (n : ℕ) → (cond (n == name) new (f n)).group ≡ state (u.outgoing n)) (sym (same_after_calls hash_of w name c))
          (group_by_name w.replica name new u.outgoing w.outgoing on.1 (λ n a. (seen_elsewhere w name c n a).1) meant.group);
    }

-- ---- deliveries

-- a delivery leaves the group, and what was to be sent
pub outgoing_stays : (w : World) (name : ℕ) (old : Replica) (mail : Mail) (of : Snapshot) (outcome : Outcome)
    → (takes name old mail of outcome w).outgoing ≡ w.outgoing
outgoing_stays w name = left_as_is name (λ u. u.outgoing) (λ u m. refl) (λ u o s. refl) (λ u s o. refl) (λ u s t. refl) (λ u o f t. refl) w

pub seen_stays : (w : World) (name n : ℕ) → n ≢ name → (old : Replica) (mail : Mail) (of : Snapshot) (outcome : Outcome)
    → (takes name old mail of outcome w).seen n ≡ w.seen n
seen_stays w name n apart =
    left_as_is name (λ u. u.seen n) (λ u m. grown-there n name (u.seen n) m apart) (λ u o s. refl) (λ u s o. refl) (λ u s t. refl)
    (λ u o f t. grown-there n name (u.seen n) f.seen apart) w

either_part : (b : Bool) (S : List Operation) (n : ℕ) (u w : World) → IsPartOf S (u.seen n) → IsPartOf S (w.seen n) → IsPartOf S ((cond b u w).seen n)
either_part true S n u w f g = f
either_part false S n u w f g = g

pub takes_grow : (w : World) (name n : ℕ) (old : Replica) (mail : Mail) (of : Snapshot) (outcome : Outcome)
    → IsPartOf (w.seen n) ((takes name old mail of outcome w).seen n)
takes_grow w name n old (Delta d) of outcome = grown_part (n == name) (w.seen n) of.seen
takes_grow w name n old (Hello s seen) of outcome = either_part (is_sent outcome) (w.seen n) n (world.keeps name old s w) w (itself_part (w.seen n))
    (itself_part (w.seen n))
takes_grow w name n old (Opening s c root) of outcome =
    either_part (is_done outcome) (w.seen n) n (ends name (own_of (open_at old.sessions s)) of [] w) (cond (is_sent outcome) (accepts s of w) w)
    (grown_part (n == name) (w.seen n) of.seen)
    (either_part (is_sent outcome) (w.seen n) n (accepts s of w) w (itself_part (w.seen n)) (itself_part (w.seen n)))
takes_grow w name n old (Ask s p) of outcome = itself_part (w.seen n)
takes_grow w name n old (Page s sent) of outcome =
    either_part (is_done outcome) (w.seen n) n (ends name (own_of (open_at old.sessions s)) (w.accepted s) (taking_of sent ∷ w.taken s) w)
    (cond (is_sent outcome) (takes_page s sent w) w) (grown_part (n == name) (w.seen n) (w.accepted s).seen)
    (either_part (is_sent outcome) (w.seen n) n (takes_page s sent w) w (itself_part (w.seen n)) (itself_part (w.seen n)))
takes_grow w name n old (Gone s) of outcome = itself_part (w.seen n)

either_closed : (b : Bool) (m : Met) (u w : World) → Contains u.closed m → Contains w.closed m → Contains (cond b u w).closed m
either_closed true m u w f g = f
either_closed false m u w f g = g

pub closed_grows : (w : World) (name : ℕ) (old : Replica) (mail : Mail) (of : Snapshot) (outcome : Outcome) (m : Met) → Contains w.closed m
    → Contains (takes name old mail of outcome w).closed m
closed_grows w name old (Delta d) of outcome m h = h
closed_grows w name old (Hello s seen) of outcome m h = either_closed (is_sent outcome) m (world.keeps name old s w) w h h
closed_grows w name old (Opening s c root) of outcome m h =
    either_closed (is_done outcome) m (ends name (own_of (open_at old.sessions s)) of [] w) (cond (is_sent outcome) (accepts s of w) w)
    (Contains-append_left w.closed _ m h) (either_closed (is_sent outcome) m (accepts s of w) w h h)
closed_grows w name old (Ask s p) of outcome m h = h
closed_grows w name old (Page s sent) of outcome m h =
    either_closed (is_done outcome) m (ends name (own_of (open_at old.sessions s)) (w.accepted s) (taking_of sent ∷ w.taken s) w)
    (cond (is_sent outcome) (takes_page s sent w) w) (Contains-append_left w.closed _ m h)
    (either_closed (is_sent outcome) m (takes_page s sent w) w h h)
closed_grows w name old (Gone s) of outcome m h = h

pub closed_by_call : (w : World) (name : ℕ) (c : Call) → (calls name c w).closed ≡ w.closed
closed_by_call w name (Put place value) = refl
closed_by_call w name (Remove key) = refl
closed_by_call w name (RemoveField place) = refl
closed_by_call w name Clear = refl
closed_by_call w name Flush = refl
closed_by_call w name (call.Ask peer) = refl
closed_by_call w name (Retry number) = refl
closed_by_call w name (Abandon number) = refl
closed_by_call w name Restart = refl

-- a session that ends, by the sets that its asker had seen when it asked and its peer when it opened
session_joins : (hash_of : List ℕ → ℕ) (S T seen : List Operation) (own theirs : Held) (known_own context : DotValue → Bool) (ts : List Taking) (f : Fetch)
    → own ≡ map_of S → known_own ≡ has (known S) → theirs ≡ map_of T → context ≡ has (known T) → IsPartOf S seen → NoReuse (seen ++ T)
    → NoClash hash_of own theirs ts
    → Fetched hash_of own known_own context (digest_at hash_of theirs []) ts f → ((p : List ℕ) → finite.get f.waiting p ≡ None)
    → join greater (state seen) (held_state f.built context) ≡ state (seen ++ T)
unfolding root_digest
session_joins hash_of S T seen own theirs known_own context ts f own_is known_is theirs_is context_is part once no_clash fetched complete =
    let clean : NoClash hash_of (map_of S) (map_of T) ts = subst (λ o. NoClash hash_of o (map_of T) ts) own_is
    (subst (λ m. NoClash hash_of own m ts) theirs_is no_clash) in
    let first = subst (λ o. Fetched hash_of o known_own context (digest_at hash_of theirs []) ts f) own_is fetched in
    let second = subst (λ k. Fetched hash_of (map_of S) k context (digest_at hash_of theirs []) ts f) known_is first in
    let third = subst (λ c. Fetched hash_of (map_of S) (has (known S)) c (digest_at hash_of theirs []) ts f) context_is second in
    let fourth = subst (λ m. Fetched hash_of (map_of S) (has (known S)) (has (known T)) (digest_at hash_of m []) ts f) theirs_is third in
    ap (λ c. join greater (state seen) (held_state f.built c)) context_is ∙ same_is _ _ (done hash_of S T seen ts f part once clean fourth complete)

-- a message that comes to a replica, and what it stands for
module _ (hash_of : List ℕ → ℕ) (w : World) (name : ℕ) (whole : List Operation) (fits : Fits w name whole) (meant : Meant hash_of w) (mail : Mail)
    (of : Snapshot)
    (tie : MailTie hash_of SnapOf (AskedOf w) SendsOf mail of) (of_part : IsPartOf of.seen whole) (own : Held) (is_own : IsMapOf own (w.replica name).live)
    (new : Replica) (outcome : Outcome) (out : List Mail) (step : delivered hash_of own (w.replica name) mail ≡ turn new outcome out) where
  abbrev after : World
  after = takes name (w.replica name) mail of outcome w

  learnt : Learns hash_of SnapOf (AskedOf w) SendsOf w name mail of (turn new outcome out) → new.live ≡ state (after.seen name)
  learnt l =
      l.live
      ∙ same_is _ _ (joins (w.seen name) of.seen whole (w.replica name).live l.delta fits.once fits.seen of_part (is_same _ _ (meant.live name))
      (is_same _ _ l.sends))
      ∙ ap state (sym (grown-here name (w.seen name) of.seen))
      ∙ ap (λ (x : World). state (x.seen name)) (sym l.sets)

  snapshot_part : (x : Snapshot) (s : SessionValue) → (x ≡ of) ⊎ (x ≡ w.accepted s) → IsPartOf x.seen whole
  snapshot_part x s (inl e) = subst (λ (y : Snapshot). IsPartOf y.seen whole) (sym e) of_part
  snapshot_part x s (inr e) = subst (λ (y : Snapshot). IsPartOf y.seen whole) (sym e) (fits.accepted s)

  ended : Unclashed hash_of after → Ending hash_of SnapOf (AskedOf w) SendsOf w name mail of (turn new outcome out) → new.live ≡ state (after.seen name)
  ended clean e =
      let asked = (meant.ties.sessions name e.session e.there).asked in
      let T = e.snapshot.seen in
      let part : IsPartOf T whole = snapshot_part e.snapshot e.session.session e.which in
      let met : Met = record { own = e.session.own; theirs = e.snapshot.map; takings = e.takings } in
      let there : Contains after.closed met = subst (λ (x : World). Contains x.closed met) (sym e.sets)
      (Contains-append_right w.closed (met ∷ []) met (at_head met [])) in
      e.live
      ∙ ap (λ p. join greater p (held_state e.fetched.built e.context)) (meant.live name)
      ∙ session_joins hash_of asked.0 T (w.seen name) e.session.own e.snapshot.map e.session.seen e.context e.takings e.fetched asked.2 asked.3 e.snap.0
      e.snap.1 asked.1
      (NoReuse-part (w.seen name ++ T) whole (part_both (w.seen name) T whole fits.seen part) fits.once) (clean met there) e.is_fetched e.complete
      ∙ ap state (sym (grown-here name (w.seen name) T))
      ∙ ap (λ (x : World). state (x.seen name)) (sym e.sets)

  live_after : Unclashed hash_of after → new.live ≡ state (after.seen name)
  live_after clean =
      by (subst (Comes hash_of SnapOf (AskedOf w) SendsOf w name mail of) step (comes hash_of SnapOf (AskedOf w) SendsOf w name meant.ties own mail of tie))
    where
      by : Comes hash_of SnapOf (AskedOf w) SendsOf w name mail of (turn new outcome out) → new.live ≡ state (after.seen name)
      by (inl l) = learnt l
      by (inr (inl e)) = ended clean e
      by (inr (inr s)) = s.live ∙ meant.live name ∙ ap (λ f. state (f name)) (sym s.seen)

  pub meant_delivery : Unclashed hash_of after → Meant hash_of (goes name new out [] after)
  meant_delivery clean =
      let x = goes name new out [] after in
      let old = w.replica name in
      let own_is = map_is (w.seen name) (NoReuse-part (w.seen name) whole fits.seen fits.once) own old.live is_own (is_same _ _ (meant.live name)) in
      let group : new.group ≡ state (w.outgoing name) = ap (λ (t : Turn). t.new.group) (sym step) ∙ (unchanged hash_of own old mail).1 ∙ meant.group name in
      record {
        ties = taken_ties hash_of SnapOf (AskedOf x) SendsOf w name own
            mail of (more_meant hash_of w x (λ n. takes_grow w name n old mail of outcome) meant.ties)
            (mail_more hash_of SnapOf SnapOf (AskedOf w) (AskedOf x) SendsOf SendsOf (λ s S m c h. h)
            (λ n s m c a. (a.0, λ o h. takes_grow w name n old mail of outcome o (a.1 o h), a.2, a.3)) (λ d S h. h) mail of tie)
            (λ s seen hello here none. (own_is, ap (λ (p : MapState). p.has) (meant.live name))) new outcome out step;
        live = subst (λ f. (n : ℕ) → (cond (n == name) new (f n)).live ≡ state (after.seen n)) (sym (same_replicas w name old mail of outcome))
            (live_by_name w.replica name new after.seen w.seen (live_after clean) (λ n a. seen_stays w name n a old mail of outcome) meant.live);
        group = subst (λ f. (n : ℕ) → (cond (n == name) new (f n)).group ≡ state (after.outgoing n)) (sym (same_replicas w name old mail of outcome))
            (group_by_name w.replica name new after.outgoing w.outgoing (group ∙ ap (λ f. state (f name)) (sym same_outgoing))
            (λ n a. ap (λ f. f n) same_outgoing) meant.group);
      }
    where
      same_outgoing : after.outgoing ≡ w.outgoing
      same_outgoing = outgoing_stays w name (w.replica name) mail of outcome

-- ---- all events

module _ (hash_of : List ℕ → ℕ) where
  abbrev IfClean : List Event → World → Type 0
  IfClean events w = Unclashed hash_of w → Meant hash_of w

  pub meant_first : Meant hash_of nothing
  meant_first = record {
    ties = record {
      named = λ n. refl;
      kept = λ n k h. nothing_in k h;
      sessions = λ n o h. nothing_in o h;
      messages = λ number m is. absurd (none_at number m is);
    };
    live = λ n. refl;
    group = λ n. refl;
  }

  meant_node : (w : World) (name : ℕ) → Meant hash_of w → Meant hash_of (record w { nodes = w.nodes ++ name ∷ [] })
  meant_node w name m = record {
    ties = record { named = m.ties.named; kept = m.ties.kept; sessions = m.ties.sessions; messages = m.ties.messages };
    live = m.live;
    group = m.group;
  }

  meant_next : (events : List Event) (w v : World) (e : Event) (answer : Answer) → Runs hash_of nothing events w → IfClean events w
      → Happens hash_of w e answer v → IfClean (events ++ e ∷ []) v
  meant_next events w v (Node name) answer runs m (new, a, e) clean =
      subst (Meant hash_of) (sym e) (meant_node w name (m (λ x h. clean x (subst (λ (u : World). Contains u.closed x) (sym e) h))))
  meant_next events w v (At name c) answer runs m (there, peer, (new, out, step, e)) clean =
      subst (Meant hash_of) (sym e)
      (let s = sound hash_of events w runs in
      meant_call hash_of w name c new answer out (calls name c w).made (sound_fits_then w s name c) ((sound_calls w name c s).sets.seen name)
      (m (λ x h. clean x (subst (λ (u : World). Contains u.closed x) (sym e) (subst (λ l. Contains l x) (sym (closed_by_call w name c)) h)))) step)
  meant_next events w v (Deliver number name) answer runs m happens clean =
      let d = delivery hash_of w v number name answer happens in
      let after = takes name (w.replica name) d.message.mail d.message.of d.outcome w in
      let clean_after : Unclashed hash_of after = λ x h. clean x (subst (λ (u : World). Contains u.closed x) (sym d.after) h) in
      let before : Unclashed hash_of w = λ x h. clean_after x (closed_grows w name (w.replica name) d.message.mail d.message.of d.outcome x h) in
      let s = sound hash_of events w runs in
      let meant = m before in
      subst (Meant hash_of) (sym d.after)
      (meant_delivery hash_of w name w.made (sound_fits w s name) meant d.message.mail d.message.of (meant.ties.messages number d.message d.there)
      (subst (λ S. IsPartOf S w.made) (carried w.messages number d.message d.there) (s.sets.messages number))
      d.own d.is_own d.new d.outcome d.out d.step clean_after)

  pub meant_all : (events : List Event) (w : World) → Runs hash_of nothing events w → Unclashed hash_of w → Meant hash_of w
  meant_all events w runs = by_events hash_of IfClean (λ clean. meant_first) meant_next events w runs

-- what a message means, by the ties
pub means_mail : (hash_of : List ℕ → ℕ) (w : World) (mail : Mail) (of : Snapshot) → MailTie hash_of SnapOf (AskedOf w) SendsOf mail of
    → MeansMail hash_of mail of.seen
unfolding root_digest
means_mail hash_of w (Delta d) of tie = tie
means_mail hash_of w (Hello s seen) of tie = tt
means_mail hash_of w (Opening s c root) of tie = (tie.0.1, tie.1 ∙ ap (λ m. digest_at hash_of m []) tie.0.0)
means_mail hash_of w (Ask s p) of tie = tt
means_mail hash_of w (Page s sent) of tie = tt
means_mail hash_of w (Gone s) of tie = tt

pub headline : Headline
headline hash_of events w runs clean =
    let m = meant_all hash_of events w runs clean in
    record { live = m.live; group = m.group; messages = λ number x there. means_mail hash_of w x.mail x.of (m.ties.messages number x there) }

pub same_seen : SameSeen
same_seen hash_of events w runs clean a b same =
    let m = meant_all hash_of events w runs clean in
    let live : (w.replica a).live ≡ (w.replica b).live = m.live a ∙ same_is _ _ (state-same (w.seen a) (w.seen b) same) ∙ sym (m.live b) in
    let one : (x y : Held) → IsMapOf x (w.replica a).live → IsMapOf y (w.replica b).live → x ≡ y =
    λ x y f g. maps_one x y (w.replica b).live (subst (IsMapOf x) live f) g in
    record { live = live; one_map = one; digests = λ x y f g prefix. ap (λ z. digest_at hash_of z prefix) (one x y f g) }

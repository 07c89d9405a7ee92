-- What stands anywhere in a world was put, after every list of events, whatever clashes: each replica and each delta knows what it holds, and each
-- value has the SHA-256 of the one that was put under its dot.
use Rattle.std.proofs.Common.{◌≡◌, ◌⊎◌, inl, inr, ℕ, ◌<◌, ◌==◌, List, [], ◌∷◌, ◌++◌, map, Bool, true, false, Option, Some, None, cond, arith, refl, sym, ap}
use Rattle.std.proofs.Common.{◌∙◌, subst}
use Rattle.std.specs.Prelude.{Contains, ◌||◌}
use Rattle.std.specs.FinMap as finite
use Rattle.std.proofs.lemmas.Bool.{or_left, or_right}
use Rattle.dots.specs.Dot.{DotValue, same_dot}
use Rattle.dots.specs.declared.dot.Dot.{Dot}
use Rattle.op_model.specs.Made.{erasure, IsPutAt}
use Rattle.op_model.specs.Meaning.{MapState, greater, state}
use Rattle.op_model.specs.Operation.{Write, Operation, Wrote, has}
use Rattle.op_model.specs.Place.{Place}
use Rattle.op_model.specs.State.{join}
use Rattle.op_model.proofs.Dots.{same_dot-self}
use Rattle.op_model.proofs.Making.{has-write}
use Rattle.op_model.proofs.Members.{nothing_in, at_head, in_tail, head_or_tail, from_map}
use Rattle.wire_form.specs.Page.{PageValue}
use Rattle.wire_form.specs.Session.{SessionValue, same_session}
use Rattle.prefix_digest.specs.MapOf.{IsMapOf}
use Rattle.prefix_digest.specs.Page.{page_at, digest_at}
use Rattle.sync_model.specs.Closing.{held_state, IsBelow}
use Rattle.sync_model.specs.Differ.{Held}
use Rattle.sync_model.specs.Fetch.{entries_of}
use Rattle.sync_model.specs.Laws.{Taking}
use Rattle.sync_model.proofs.Members.{In}
use Rattle.replica_model.specs.Delivery.{Outcome, Turn, turn, ignored, asks_for, opening_of, page_for, answered, took_ask, taken, delivered}
use Rattle.replica_model.specs.Mail.{Mail, Delta, Hello, Opening, Ask, Page, Gone, is_for}
use Rattle.replica_model.specs.Replica.{Replica, Open, Accepted, Kept, open_numbered, open_at, kept_at, makes, next_session}
use Rattle.replica_model.specs.Sessions.{taken_with}
use Rattle.replica_model.specs.Step.{Call, Put, Remove, RemoveField, Clear, Flush, Retry, Abandon, Restart, Answer, Removes, Abandons, IsCall, again, retried}
use Rattle.replica_model.specs.Step as call
use Rattle.replica_model.specs.World.{World, Event, Node, At, Deliver, Message, Snapshot, nothing, message_at, sent_as, changed, calls, keeps, accepts}
use Rattle.replica_model.specs.World.{takes_page, taking_of, own_of, ends, takes, is_sent, is_done, goes, Happens, Runs}
use Rattle.replica_model.proofs.Built.{EachEntry, fetched_made, whole_known}
use Rattle.replica_model.proofs.Calls.{more_ties, called_ties}
use Rattle.replica_model.proofs.Carried.{Ties, at_either, by_name, delivered_ties, same_replicas, same_messages}
use Rattle.replica_model.proofs.Ending.{Ending, Comes, comes}
use Rattle.replica_model.proofs.Found.{found_kept, in_one}
use Rattle.replica_model.proofs.Fronts.{Delivered, delivery, by_events, none_at, grown_there, same_after_calls}
use Rattle.replica_model.proofs.Growing.{call_grows, delivery_grows}
use Rattle.replica_model.proofs.Rows.{snapshot, each_row}
use Rattle.replica_model.proofs.Unchanged.{unchanged}
use Rattle.replica_model.proofs.Standing.{AreOne, IsNamed, IsOf, IsHeldOf, of_more, held_more, entries_more, join_of, erasure_of, nothing_of, write_of}
use Rattle.replica_model.proofs.Standing.{map_of_puts, held_named, page_named}

-- ---- what is said of a snapshot, of an ask, of a delta and of a page

abbrev pub SnapOf : List Write → SessionValue → List Operation → Held → (DotValue → Bool) → Type 0
SnapOf puts s S m c = IsHeldOf puts m c

abbrev pub AskedOf : List Write → ℕ → SessionValue → Held → (DotValue → Bool) → Type 0
AskedOf puts name s own known = IsHeldOf puts own known

abbrev pub SendsOf : List Write → MapState → List Operation → Type 0
SendsOf puts d S = IsOf puts d

abbrev pub TellsOf : List Write → Mail → Type 0
TellsOf puts (Delta d) = Unit {0}
TellsOf puts (Hello s seen) = Unit {0}
TellsOf puts (Opening s context root) = Unit {0}
TellsOf puts (Ask s prefix) = Unit {0}
TellsOf puts (Page s sent) = EachEntry (IsNamed puts) (entries_of sent.page)
TellsOf puts (Gone s) = Unit {0}

-- All that stands in the world is of these writes, each of which the replica of its name knows: so no put comes to a dot that was used.
pub record WasPut (hash_of : List ℕ → ℕ) (puts : List Write) (w : World) : Type 0 where
  pub one : AreOne puts
  pub known : (v : Write) → Contains puts v → (w.replica v.id.name).live.has v.id ≡ true
  pub ties : Ties hash_of (SnapOf puts) (AskedOf puts) (SendsOf puts) w
  pub live : (name : ℕ) → IsOf puts (w.replica name).live
  pub group : (name : ℕ) → IsOf puts (w.replica name).group
  pub pages : (number : ℕ) (m : Message) → message_at w.messages number ≡ Some m → TellsOf puts m.mail
  pub taken : (s : SessionValue) (t : Taking) → In (w.taken s) t → EachEntry (IsNamed puts) (entries_of t.page)

module _ (puts more : List Write) (grew : (v : Write) → Contains puts v → Contains more v) where
  tells_more : (mail : Mail) → TellsOf puts mail → TellsOf more mail
  tells_more (Delta d) h = tt
  tells_more (Hello s seen) h = tt
  tells_more (Opening s context root) h = tt
  tells_more (Ask s prefix) h = tt
  tells_more (Page s sent) h = entries_more puts more grew (entries_of sent.page) h
  tells_more (Gone s) h = tt

  put_more : (hash_of : List ℕ → ℕ) (w : World) → Ties hash_of (SnapOf puts) (AskedOf puts) (SendsOf puts) w
      → Ties hash_of (SnapOf more) (AskedOf more) (SendsOf more) w
  put_more hash_of w =
      more_ties hash_of (SnapOf puts) (SnapOf more) (AskedOf puts) (AskedOf more) (SendsOf puts) (SendsOf more)
      (λ s S m c h. held_more puts more grew m c h)
      (λ n s m c h. held_more puts more grew m c h)
      (λ d S h. of_more puts more grew d h)
      w

-- the map that stands for a live state
live_held : (puts : List Write) (m : Held) (p : MapState) → IsMapOf m p → IsOf puts p → IsHeldOf puts m p.has
live_held puts m p is of = record { of = p; is_map = is; knows = refl; is_of = of }

-- a known dot stays known
knows_more : (a b : Bool) → (a || b) ≡ a → b ≡ true → a ≡ true
knows_more true b e k = refl
knows_more false b e k = sym e ∙ k

still_known : (p q : MapState) → IsBelow p q → (dot : Dot) → p.has dot ≡ true → q.has dot ≡ true
still_known p q below dot known = knows_more (q.has dot) (p.has dot) (below.has dot) known

-- ---- the pages that are sent

module _ (puts : List Write) where
  none_told : (x : Mail) → Contains [] x → TellsOf puts x
  none_told x h = nothing_in x h

  one_told : (mail x : Mail) → TellsOf puts mail → Contains (mail ∷ []) x → TellsOf puts x
  one_told mail x tells h = subst (TellsOf puts) (sym (in_one mail x h)) tells

  asks_told : (s : SessionValue) (prefixes : List (List ℕ)) (x : Mail) → Contains (asks_for s prefixes) x → TellsOf puts x
  asks_told s prefixes x h = let found = from_map (Ask s) prefixes x h in subst (TellsOf puts) found.2 tt

  -- a call sends none
  again_told : (o : Open) (a : Option Accepted) (x : Mail) → Contains (again o a) x → TellsOf puts x
  again_told o None x h = one_told (Hello o.session o.seen) x tt h
  again_told o (Some a) x h = asks_told o.session (map (λ e. e.0) (finite.entries a.fetch.waiting)) x h

  retried_told : (r : Replica) (o : Option Open) (x : Mail) → Contains (retried r o).replies x → TellsOf puts x
  retried_told r None x h = none_told x h
  retried_told r (Some o) x h = again_told o o.accepted x h

  told_as : (out ms : List Mail) → out ≡ ms → ((x : Mail) → Contains ms x → TellsOf puts x) → (x : Mail) → Contains out x → TellsOf puts x
  told_as out ms e all x h = all x (subst (λ l. Contains l x) e h)

  call_told : (old new : Replica) (c : Call) (answer : Answer) (out : List Mail) → IsCall old c new answer out → (x : Mail) → Contains out x → TellsOf puts x
  call_told old new (Put place value) answer out (v, put, few, n, a, o) = told_as out [] o none_told
  call_told old new (Remove key) answer out (over, just, n, a, o) = told_as out [] o none_told
  call_told old new (RemoveField place) answer out (over, just, n, a, o) = told_as out [] o none_told
  call_told old new Clear answer out (over, just, n, a, o) = told_as out [] o none_told
  call_told old new Flush answer out (a, inl (none, n, o)) = told_as out [] o none_told
  call_told old new Flush answer out (a, inr (some, n, o)) = told_as out _ o (λ x h. one_told (Delta old.group) x tt h)
  call_told old new (call.Ask peer) answer out (own, is, few, left, n, a, o) =
      told_as out _ o (λ x h. one_told (Hello (next_session old peer) old.live.has) x tt h)
  call_told old new (Retry number) answer out (n, a, o) = told_as out _ o (retried_told old (open_numbered old.sessions number))
  call_told old new (Abandon number) answer out (abandons, o) = told_as out [] o none_told
  call_told old new Restart answer out (n, a, o) = told_as out [] o none_told

  module _ (hash_of : List ℕ → ℕ) (own : Held) (r : Replica) (held : (k : Kept) → Contains r.kept k → IsHeldOf puts k.map k.context) where
    -- an ask is told a page of a kept snapshot
    answered_told : (s : SessionValue) (p : List ℕ) (k : Kept) → Contains r.kept k → (o : Option PageValue) → page_at hash_of k.map p ≡ o → (x : Mail)
        → Contains (answered hash_of r s k p o).replies x → TellsOf puts x
    answered_told s p k there None e x h = none_told x h
    answered_told s p k there (Some page) e x h = one_told (page_for hash_of s k p page) x (page_named puts k.map k.context (held k there) hash_of p page e) h

    ask_told : (s : SessionValue) (p : List ℕ) (o : Option Kept) → kept_at r.kept s ≡ o → (x : Mail) → Contains (took_ask hash_of r s p o).replies x
        → TellsOf puts x
    ask_told s p None e x h = one_told (Gone s) x tt h
    ask_told s p (Some k) e x h = answered_told s p k (found_kept r.kept s k e).0 (page_at hash_of k.map p) refl x h

    for_it_told : (s : SessionValue) (p : List ℕ) (b : Bool) (x : Mail) → Contains (cond b (taken hash_of own r (Ask s p)) (ignored r)).replies x
        → TellsOf puts x
    for_it_told s p true x h = ask_told s p (kept_at r.kept s) refl x h
    for_it_told s p false x h = none_told x h

    -- and no other message is told one
    abbrev IsNoAsk : Mail → Type 0
    IsNoAsk (Delta d) = Unit {0}
    IsNoAsk (Hello s seen) = Unit {0}
    IsNoAsk (Opening s context root) = Unit {0}
    IsNoAsk (Ask s prefix) = ⊥
    IsNoAsk (Page s sent) = Unit {0}
    IsNoAsk (Gone s) = Unit {0}

    other_told : (mail : Mail) → IsNoAsk mail → (x : Mail) → Contains (delivered hash_of own r mail).replies x → TellsOf puts x
    other_told = each_row hash_of own r (λ mail t. IsNoAsk mail → (x : Mail) → Contains t.replies x → TellsOf puts x) (record {
      ignoring = λ mail other no x h. none_told x h;
      mismatch = λ mail other no x h. none_told x h;
      delta = λ d no x h. none_told x h;
      told_again = λ s seen k e no x h. one_told (opening_of hash_of k) x tt h;
      kept = λ s seen here none no x h. one_told (opening_of hash_of (snapshot own r s seen)) x tt h;
      gone = λ s p no x h. one_told (Gone s) x tt h;
      page = λ s p k page no x h. absurd no;
      opening_done = λ s c root o f there first took complete no x h. none_told x h;
      opening_sent = λ s c root o f there first took no x h. asks_told o.session _ x h;
      page_done = λ s sent o a f there accepted took complete no x h. none_told x h;
      page_sent = λ s sent o a f there accepted took no x h. asks_told o.session _ x h;
      ended = λ s o there no x h. none_told x h;
    })

    delivery_told : (mail : Mail) (x : Mail) → Contains (delivered hash_of own r mail).replies x → TellsOf puts x
    delivery_told (Delta d) = other_told (Delta d) tt
    delivery_told (Hello s seen) = other_told (Hello s seen) tt
    delivery_told (Opening s context root) = other_told (Opening s context root) tt
    delivery_told (Ask s p) = for_it_told s p (is_for r.name (Ask s p))
    delivery_told (Page s sent) = other_told (Page s sent) tt
    delivery_told (Gone s) = other_told (Gone s) tt

-- ---- the messages and the pages taken, where the sets followed

called_messages : (w : World) (name : ℕ) (c : Call) → (calls name c w).messages ≡ w.messages
called_messages w name (Put place value) = refl
called_messages w name (Remove key) = refl
called_messages w name (RemoveField place) = refl
called_messages w name Clear = refl
called_messages w name Flush = refl
called_messages w name (call.Ask peer) = refl
called_messages w name (Retry number) = refl
called_messages w name (Abandon number) = refl
called_messages w name Restart = refl

called_taken : (w : World) (name : ℕ) (c : Call) → (calls name c w).taken ≡ w.taken
called_taken w name (Put place value) = refl
called_taken w name (Remove key) = refl
called_taken w name (RemoveField place) = refl
called_taken w name Clear = refl
called_taken w name Flush = refl
called_taken w name (call.Ask peer) = refl
called_taken w name (Retry number) = refl
called_taken w name (Abandon number) = refl
called_taken w name Restart = refl

-- a message is one of those that were there, or was sent
sent_tells : (puts : List Write) (before after : List Message) → after ≡ before
    → ((number : ℕ) (m : Message) → message_at before number ≡ Some m → TellsOf puts m.mail)
    → (group : List Operation) (stored : SessionValue → List Operation) (ks : List Kept) (out : List Mail) → ((x : Mail) → Contains out x → TellsOf puts x)
    → (number : ℕ) (m : Message) → message_at (after ++ map (sent_as group stored ks) out) number ≡ Some m → TellsOf puts m.mail
sent_tells puts before after same was group stored ks out tells number m h = either (at_either after (map (sent_as group stored ks) out) number m h)
  where
    either : (message_at after number ≡ Some m) ⊎ Contains (map (sent_as group stored ks) out) m → TellsOf puts m.mail
    either (inl there) = was number m (subst (λ ms. message_at ms number ≡ Some m) same there)
    either (inr new) = let found = from_map (sent_as group stored ks) out m new in subst (λ (y : Message). TellsOf puts y.mail) found.2 (tells found.0 found.1)

module _ (puts : List Write) where
  abbrev AllTaken : (SessionValue → List Taking) → Type 0
  AllTaken f = (s : SessionValue) (t : Taking) → In (f s) t → EachEntry (IsNamed puts) (entries_of t.page)

  changed_taken : (f : SessionValue → List Taking) (s : SessionValue) (ts : List Taking) → AllTaken f
      → ((t : Taking) → In ts t → EachEntry (IsNamed puts) (entries_of t.page)) → AllTaken (changed f s ts)
  changed_taken f s ts all new u t = step (same_session u s)
    where
      step : (b : Bool) → In (cond b ts (f u)) t → EachEntry (IsNamed puts) (entries_of t.page)
      step true h = new t h
      step false h = all u t h

  either_taken : (b : Bool) (u w : World) → AllTaken u.taken → AllTaken w.taken → AllTaken (cond b u w).taken
  either_taken true u w f g = f
  either_taken false u w f g = g

  one_more : (t : Taking) (ts : List Taking) → EachEntry (IsNamed puts) (entries_of t.page)
      → ((u : Taking) → In ts u → EachEntry (IsNamed puts) (entries_of u.page)) → (u : Taking) → In (t ∷ ts) u → EachEntry (IsNamed puts) (entries_of u.page)
  one_more t ts here rest u (inl same) = subst (λ (x : Taking). EachEntry (IsNamed puts) (entries_of x.page)) same here
  one_more t ts here rest u (inr h) = rest u h

  taken_after : (w : World) (name : ℕ) (old : Replica) (mail : Mail) (of : Snapshot) (outcome : Outcome) → AllTaken w.taken → TellsOf puts mail
      → AllTaken (takes name old mail of outcome w).taken
  taken_after w name old (Delta d) of outcome all tells = all
  taken_after w name old (Hello s seen) of outcome all tells = either_taken (is_sent outcome) (keeps name old s w) w all all
  taken_after w name old (Opening s context root) of outcome all tells =
      either_taken (is_done outcome) (ends name (own_of (open_at old.sessions s)) of [] w) (cond (is_sent outcome) (accepts s of w) w) all
      (either_taken (is_sent outcome) (accepts s of w) w (changed_taken w.taken s [] all (λ t h. absurd h)) all)
  taken_after w name old (Ask s prefix) of outcome all tells = all
  taken_after w name old (Page s sent) of outcome all tells =
      either_taken (is_done outcome) (ends name (own_of (open_at old.sessions s)) (w.accepted s) (taking_of sent ∷ w.taken s) w)
      (cond (is_sent outcome) (takes_page s sent w) w) all
      (either_taken (is_sent outcome) (takes_page s sent w) w
      (changed_taken w.taken s (taking_of sent ∷ w.taken s) all (one_more (taking_of sent) (w.taken s) tells (all s))) all)
  taken_after w name old (Gone s) of outcome all tells = all

  -- the pages of a session that this message ends
  taken_in : (w : World) (mail : Mail) → AllTaken w.taken → TellsOf puts mail → (t : Taking) → In (taken_with w mail) t
      → EachEntry (IsNamed puts) (entries_of t.page)
  taken_in w (Delta d) all tells t h = absurd h
  taken_in w (Hello s seen) all tells t h = absurd h
  taken_in w (Opening s context root) all tells t h = absurd h
  taken_in w (Ask s prefix) all tells t h = absurd h
  taken_in w (Page s sent) all tells t h = one_more (taking_of sent) (w.taken s) tells (all s) t h
  taken_in w (Gone s) all tells t h = absurd h

-- ---- calls

module _ (hash_of : List ℕ → ℕ) (w : World) (name : ℕ) (puts : List Write) (was : WasPut hash_of puts w) where
  -- what holds of the replica after a call, where these were put by then
  record Follows (more : List Write) (new : Replica) : Type 0 where
    grew : (v : Write) → Contains puts v → Contains more v
    one : AreOne more
    known : (v : Write) → Contains more v → Contains puts v ⊎ ((v.id.name ≡ name) × (new.live.has v.id ≡ true))
    live : IsOf more new.live
    group : IsOf more new.group

  abbrev Followed : Replica → Type 0
  Followed new = (more : List Write) × Follows more new

  -- nothing was put
  as_it_was : (new : Replica) → IsOf puts new.live → IsOf puts new.group → Followed new
  as_it_was new live group = (puts, record { grew = λ v h. h; one = was.one; known = λ v h. inl h; live = live; group = group })

  to : (new changed : Replica) → new ≡ changed → Followed changed → Followed new
  to new changed e f = subst Followed (sym e) f

  left_live : (new : Replica) → new.live ≡ (w.replica name).live → new.group ≡ (w.replica name).group → Followed new
  left_live new live group = as_it_was new (subst (IsOf puts) (sym live) (was.live name)) (subst (IsOf puts) (sym group) (was.group name))

  erased : (over : List Dot) (new : Replica) → new ≡ makes (w.replica name) (state (erasure over)) → Followed new
  erased over new n =
      to new (makes (w.replica name) (state (erasure over))) n
      (as_it_was (makes (w.replica name) (state (erasure over)))
      (join_of puts (w.replica name).live (state (erasure over)) (was.live name) (erasure_of puts over))
      (join_of puts (w.replica name).group (state (erasure over)) (was.group name) (erasure_of puts over)))

  -- a write is under a dot of the replica's name that it did not know, and so under no other's
  written : (v : Write) (place : Place) (value : List ℕ) (new : Replica) → IsPutAt (w.replica name).live (w.replica name).name place value v
      → new ≡ makes (w.replica name) (state (Wrote v ∷ [])) → Followed new
  written v place value new put n = to new (makes (w.replica name) (state (Wrote v ∷ []))) n (
    v ∷ puts,
    record {
      grew = λ u h. in_tail v puts u h;
      one = λ u x h g e. both u x (head_or_tail v puts u h) (head_or_tail v puts x g) e;
      known = λ u h. either u (head_or_tail v puts u h);
      live = join_of more (w.replica name).live (state (Wrote v ∷ [])) (of_more puts more (λ u h. in_tail v puts u h) (w.replica name).live (was.live name))
          (write_of more v (at_head v puts));
      group = join_of more (w.replica name).group (state (Wrote v ∷ [])) (of_more puts more (λ u h. in_tail v puts u h) (w.replica name).group (was.group name))
          (write_of more v (at_head v puts));
    },
  )
    where
      more : List Write
      more = v ∷ puts

      named : v.id.name ≡ name
      named = put.id.named ∙ was.ties.named name

      apart : (u : Write) → Contains puts u → u.id ≡ v.id → ⊥
      apart u h e =
          let own : u.id.name ≡ name = ap (λ (d : Dot). d.name) e ∙ named in
          let known : (w.replica name).live.has u.id ≡ true = subst (λ n. (w.replica n).live.has u.id ≡ true) own (was.known u h) in
          let below : u.id.number < v.id.number = put.id.above u.id (own ∙ sym (was.ties.named name)) known in
          let same : u.id.number ≡ v.id.number = ap (λ (d : Dot). d.number) e in
          omega (arith, below, same)

      both : (u x : Write) → (v ≡ u) ⊎ Contains puts u → (v ≡ x) ⊎ Contains puts x → u.id ≡ x.id → u.value ≡ x.value
      both u x (inl a) (inl b) e = ap (λ (y : Write). y.value) (sym a ∙ b)
      both u x (inl a) (inr b) e = absurd (apart x b (sym e ∙ ap (λ (y : Write). y.id) (sym a)))
      both u x (inr a) (inl b) e = absurd (apart u a (e ∙ ap (λ (y : Write). y.id) (sym b)))
      both u x (inr a) (inr b) e = was.one u x a b e

      knows_it : ((w.replica name).live.has v.id || (state (Wrote v ∷ [])).has v.id) ≡ true
      knows_it =
          or_right ((w.replica name).live.has v.id) ((state (Wrote v ∷ [])).has v.id)
          (has-write v v.id ∙ or_left (same_dot v.id v.id) (has v.over v.id) (same_dot-self v.id))

      either : (u : Write) → (v ≡ u) ⊎ Contains puts u → Contains puts u
          ⊎ ((u.id.name ≡ name) × ((join greater (w.replica name).live (state (Wrote v ∷ []))).has u.id ≡ true))
      either u (inl e) = inr (subst (λ (y : Write). (y.id.name ≡ name) × ((join greater (w.replica name).live (state (Wrote v ∷ []))).has y.id ≡ true)) e
          (named, knows_it))
      either u (inr h) = inl h

  abandoned : (o : Option Open) (new : Replica) (answer : Answer) → Abandons (w.replica name) o new answer → Followed new
  abandoned None new answer (n, a) = left_live new (ap (λ (x : Replica). x.live) n) (ap (λ (x : Replica). x.group) n)
  abandoned (Some o) new answer (n, a) = left_live new (ap (λ (x : Replica). x.live) n) (ap (λ (x : Replica). x.group) n)

  follows : (c : Call) (new : Replica) (answer : Answer) (out : List Mail) → IsCall (w.replica name) c new answer out → Followed new
  follows (Put place value) new answer out (v, put, few, n, a, o) = written v place value new put n
  follows (Remove key) new answer out (over, just, n, a, o) = erased over new n
  follows (RemoveField place) new answer out (over, just, n, a, o) = erased over new n
  follows Clear new answer out (over, just, n, a, o) = erased over new n
  follows Flush new answer out (a, inl (none, n, o)) = left_live new (ap (λ (x : Replica). x.live) n) (ap (λ (x : Replica). x.group) n)
  follows Flush new answer out (a, inr (some, n, o)) =
      as_it_was new (subst (IsOf puts) (sym (ap (λ (x : Replica). x.live) n)) (was.live name))
      (subst (IsOf puts) (sym (ap (λ (x : Replica). x.group) n)) (nothing_of puts))
  follows (call.Ask peer) new answer out (own, is, few, left, n, a, o) = left_live new (ap (λ (x : Replica). x.live) n) (ap (λ (x : Replica). x.group) n)
  follows (Retry number) new answer out (n, a, o) = left_live new (ap (λ (x : Replica). x.live) n) (ap (λ (x : Replica). x.group) n)
  follows (Abandon number) new answer out (step, o) = abandoned (open_numbered (w.replica name).sessions number) new answer step
  follows Restart new answer out (n, a, o) = left_live new (ap (λ (x : Replica). x.live) n) (ap (λ (x : Replica). x.group) n)

  put_call : (c : Call) (new : Replica) (answer : Answer) (out : List Mail) → IsCall (w.replica name) c new answer out → (more : List Write)
      × WasPut hash_of more (goes name new out (w.outgoing name) (calls name c w))
  put_call c new answer out step = by (follows c new answer out step)
    where
      by : Followed new → (more : List Write) × WasPut hash_of more (goes name new out (w.outgoing name) (calls name c w))
      by (more, f) = (
        more,
        record {
          one = f.one;
          known = λ v h. knows v (f.known v h);
          ties = called_ties hash_of (SnapOf more) (AskedOf more) (SendsOf more) w name (put_more puts more f.grew hash_of w was.ties)
              (of_more puts more f.grew (w.replica name).group (was.group name)) c
              (λ peer own is_ask is. live_held more own (w.replica name).live is (of_more puts more f.grew (w.replica name).live (was.live name)))
              new answer out step;
          live = subst (λ g. (n : ℕ) → IsOf more (cond (n == name) new (g n)).live) (sym (same_after_calls hash_of w name c))
              (by_name (λ n r. IsOf more r.live) name new w.replica f.live (λ n apart. of_more puts more f.grew (w.replica n).live (was.live n)));
          group = subst (λ g. (n : ℕ) → IsOf more (cond (n == name) new (g n)).group) (sym (same_after_calls hash_of w name c))
              (by_name (λ n r. IsOf more r.group) name new w.replica f.group (λ n apart. of_more puts more f.grew (w.replica n).group (was.group n)));
          pages = sent_tells more w.messages (calls name c w).messages (called_messages w name c)
              (λ number m there. tells_more puts more f.grew m.mail (was.pages number m there))
              (w.outgoing name) (calls name c w).kept new.kept out (call_told more (w.replica name) new c answer out step);
          taken = subst (AllTaken more) (sym (called_taken w name c)) (λ s t h. entries_more puts more f.grew (entries_of t.page) (was.taken s t h));
        },
      )
        where
          knows : (v : Write) → Contains puts v ⊎ ((v.id.name ≡ name) × (new.live.has v.id ≡ true))
              → (cond (v.id.name == name) new ((calls name c w).replica v.id.name)).live.has v.id ≡ true
          knows v (inl h) =
              subst (λ (g : ℕ → Replica). (cond (v.id.name == name) new (g v.id.name)).live.has v.id ≡ true) (sym (same_after_calls hash_of w name c))
              (still_known (w.replica v.id.name).live _ (grown_there w name new (call_grows (w.replica name) new c answer out step) v.id.name) v.id
              (was.known v h))
          knows v (inr (own, is)) =
              subst (λ (g : ℕ → Replica). (cond (v.id.name == name) new (g v.id.name)).live.has v.id ≡ true) (sym (same_after_calls hash_of w name c))
              (by_name (λ n r. v.id.name ≡ n → r.live.has v.id ≡ true) name new w.replica (λ e. is) (λ n apart e. absurd (apart (sym e ∙ own))) v.id.name refl)

  -- ---- deliveries

  module _ (number : ℕ) (answer : Answer) (v : World) (d : Delivered hash_of w number name answer v) where
    abbrev after : World
    after = takes name (w.replica name) d.message.mail d.message.of d.outcome w

    tells : TellsOf puts d.message.mail
    tells = was.pages number d.message d.there

    ended : Ending hash_of (SnapOf puts) (AskedOf puts) (SendsOf puts) w name d.message.mail d.message.of (turn d.new d.outcome d.out) → IsOf puts d.new.live
    ended e =
        let asked = (was.ties.sessions name e.session e.there).asked in
        let root = digest_at hash_of e.snapshot.map [] in
        let own = e.session.own in
        let built = fetched_made hash_of own e.session.seen e.context (IsNamed puts) root e.takings e.fetched (held_named puts own e.session.seen asked)
        (λ t h. taken_in puts w d.message.mail was.taken tells t (subst (λ l. In l t) e.pages h)) e.is_fetched in
        let known = whole_known hash_of own e.session.seen e.context root e.takings e.fetched e.is_fetched e.complete in
        subst (IsOf puts) (sym e.live) (join_of puts (w.replica name).live (held_state e.fetched.built e.context) (was.live name)
        (map_of_puts puts e.fetched.built e.context e.snap.is_of.is_finite.dots (λ dot. ap (λ k. k dot) e.snap.knows ∙ e.snap.is_of.is_finite.knows dot)
        known built))

    live_after : IsOf puts d.new.live
    live_after =
        by (subst (Comes hash_of (SnapOf puts) (AskedOf puts) (SendsOf puts) w name d.message.mail d.message.of) d.step
        (comes hash_of (SnapOf puts) (AskedOf puts) (SendsOf puts) w name was.ties d.own d.message.mail d.message.of
        (was.ties.messages number d.message d.there)))
      where
        by : Comes hash_of (SnapOf puts) (AskedOf puts) (SendsOf puts) w name d.message.mail d.message.of (turn d.new d.outcome d.out) → IsOf puts d.new.live
        by (inl l) = subst (IsOf puts) (sym l.live) (join_of puts (w.replica name).live l.delta (was.live name) l.sends)
        by (inr (inl e)) = ended e
        by (inr (inr s)) = subst (IsOf puts) (sym s.live) (was.live name)

    put_delivery : WasPut hash_of puts v
    put_delivery = subst (WasPut hash_of puts) (sym d.after) (record {
      one = was.one;
      known = λ u h. subst (λ (g : ℕ → Replica). (cond (u.id.name == name) d.new (g u.id.name)).live.has u.id ≡ true) (sym replicas)
          (still_known (w.replica u.id.name).live _ (grown_there w name d.new grew u.id.name) u.id (was.known u h));
      ties = delivered_ties hash_of (SnapOf puts) (AskedOf puts) (SendsOf puts) w name d.own d.message number was.ties d.there
          (λ s seen hello here none. live_held puts d.own (w.replica name).live d.is_own (was.live name)) d.new d.outcome d.out d.step;
      live = subst (λ g. (n : ℕ) → IsOf puts (cond (n == name) d.new (g n)).live) (sym replicas)
          (by_name (λ n r. IsOf puts r.live) name d.new w.replica live_after (λ n apart. was.live n));
      group = subst (λ g. (n : ℕ) → IsOf puts (cond (n == name) d.new (g n)).group) (sym replicas)
          (by_name (λ n r. IsOf puts r.group) name d.new w.replica group (λ n apart. was.group n));
      pages = sent_tells puts w.messages after.messages (same_messages w name (w.replica name) d.message.mail d.message.of d.outcome)
          was.pages [] after.kept d.new.kept d.out
          (λ x h. delivery_told puts hash_of d.own (w.replica name) (λ k there. (was.ties.kept name k there).snap) d.message.mail x
          (subst (λ (t : Turn). Contains t.replies x) (sym d.step) h));
      taken = taken_after puts w name (w.replica name) d.message.mail d.message.of d.outcome was.taken tells;
    })
      where
        replicas : after.replica ≡ w.replica
        replicas = same_replicas w name (w.replica name) d.message.mail d.message.of d.outcome

        grew : IsBelow (w.replica name).live d.new.live
        grew = subst (λ (t : Turn). IsBelow (w.replica name).live t.new.live) d.step (delivery_grows hash_of d.own (w.replica name) d.message.mail)

        group : IsOf puts d.new.group
        group = subst (IsOf puts) (sym (ap (λ (t : Turn). t.new.group) (sym d.step) ∙ (unchanged hash_of d.own (w.replica name) d.message.mail).1))
            (was.group name)

-- ---- all events

module _ (hash_of : List ℕ → ℕ) where
  abbrev pub IsAllPut : List Event → World → Type 0
  IsAllPut events w = (puts : List Write) × WasPut hash_of puts w

  put_first : IsAllPut [] nothing
  put_first = (
    [],
    record {
      one = λ u v h g e. nothing_in u h;
      known = λ v h. nothing_in v h;
      ties = record {
        named = λ n. refl;
        kept = λ n k h. nothing_in k h;
        sessions = λ n o h. nothing_in o h;
        messages = λ number m is. absurd (none_at number m is);
      };
      live = λ n. nothing_of [];
      group = λ n. nothing_of [];
      pages = λ number m is. absurd (none_at number m is);
      taken = λ s t h. absurd h;
    },
  )

  put_node : (w : World) (name : ℕ) (puts : List Write) → WasPut hash_of puts w → WasPut hash_of puts (record w { nodes = w.nodes ++ name ∷ [] })
  put_node w name puts was = record {
    one = was.one;
    known = was.known;
    ties = record { named = was.ties.named; kept = was.ties.kept; sessions = was.ties.sessions; messages = was.ties.messages };
    live = was.live;
    group = was.group;
    pages = was.pages;
    taken = was.taken;
  }

  put_next : (events : List Event) (w v : World) (e : Event) (answer : Answer) → Runs hash_of nothing events w → IsAllPut events w
      → Happens hash_of w e answer v → IsAllPut (events ++ e ∷ []) v
  put_next events w v (Node name) answer runs (puts, was) (new, a, e) = (puts, subst (WasPut hash_of puts) (sym e) (put_node w name puts was))
  put_next events w v (At name c) answer runs (puts, was) (there, peer, (new, out, step, e)) =
      let then = put_call hash_of w name puts was c new answer out step in
      (then.0, subst (WasPut hash_of then.0) (sym e) then.1)
  put_next events w v (Deliver number name) answer runs (puts, was) happens =
      (puts, put_delivery hash_of w name puts was number answer v (delivery hash_of w v number name answer happens))

  pub all_put : (events : List Event) (w : World) → Runs hash_of nothing events w → IsAllPut events w
  all_put = by_events hash_of IsAllPut put_first put_next

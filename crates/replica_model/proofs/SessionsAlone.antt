-- The open sessions of a replica by itself, whatever comes to it.
use Rattle.std.proofs.Common.{◌≡◌, ◌⊎◌, inl, inr, ℕ, List, [], ◌∷◌, ◌++◌, Bool, false, Option, Some, None, refl, sym, ap, ◌∙◌, subst, append_assoc}
use Rattle.std.specs.Prelude.{Contains}
use Rattle.std.proofs.lemmas.List.{append-nil}
use Rattle.std.proofs.lemmas.List.Elements.{Contains-append_cases}
use Rattle.dots.specs.Dot.{DotValue}
use Rattle.op_model.specs.Meaning.{MapState}
use Rattle.op_model.proofs.Members.{nothing_in}
use Rattle.wire_form.specs.Sent.{SentValue}
use Rattle.wire_form.specs.Session.{SessionValue, same_session}
use Rattle.prefix_digest.specs.MapOf.{IsMapOf}
use Rattle.sync_model.specs.Closing.{held_state, IsBelow}
use Rattle.sync_model.specs.Differ.{Held}
use Rattle.sync_model.specs.Fetch.{Fetch, take_opening, take_page}
use Rattle.sync_model.specs.Fetch as fetch
use Rattle.sync_model.specs.Laws.{Taking, Fetched}
use Rattle.sync_model.proofs.Fetches.{fetching}
use Rattle.sync_model.proofs.Lawful.{map_lawful}
use Rattle.replica_model.specs.Alone.{Deed, Calls, Comes, Befalls, RunsAlone}
use Rattle.replica_model.specs.Delivery.{Outcome, Sent, Done, Mismatch, Turn, turn, ignored, fetching as with_fetch, delivered}
use Rattle.replica_model.specs.Mail.{Mail, Delta, Hello, Opening, Page, Gone}
use Rattle.replica_model.specs.Mail as mail
use Rattle.replica_model.specs.Replica.{Replica, Open, Accepted, open_at, open_numbered, advanced, without_session}
use Rattle.replica_model.specs.SessionsAlone.{IsAskAlone, TookOpening, SessionsAlone}
use Rattle.replica_model.specs.Step.{Call, Put, Remove, RemoveField, Clear, Flush, Ask, Retry, Abandon, Restart, Answer, Came, Abandons, IsCall}
use Rattle.replica_model.specs.World.{World, Snapshot, changed, nothing, calls, takes, taking_of, goes}
use Rattle.replica_model.proofs.Calls.{asking}
use Rattle.replica_model.proofs.Deciding.{came_one}
use Rattle.replica_model.proofs.Ended.{here_new}
use Rattle.replica_model.proofs.Found.{found_open, in_advanced, in_without, in_one, changed_here, changed_elsewhere}
use Rattle.replica_model.proofs.Growing.{below_below, map_below, call_grows, delivery_grows}
use Rattle.replica_model.proofs.Rows.{each_row}
use Rattle.replica_model.proofs.Unchanged.{unchanged}

-- ---- deeds, the last first

pub runs_on : (hash_of : List ℕ → ℕ) (name : ℕ) (deeds : List Deed) (u w v : World) (d : Deed) (answer : Answer) → RunsAlone hash_of name u deeds w
    → Befalls hash_of name w d answer v → RunsAlone hash_of name u (deeds ++ d ∷ []) v
runs_on hash_of name [] u w v d answer same step = (answer, v, subst (λ s. Befalls hash_of name s d answer v) same step, refl)
runs_on hash_of name (x ∷ deeds) u w v d answer (a, t, first, rest) step = (a, t, first, runs_on hash_of name deeds t w v d answer rest step)

-- what holds at first and is kept by each deed holds after every list of deeds
module _ (hash_of : List ℕ → ℕ) (name : ℕ) (P : List Deed → World → Type 0) (first : P [] nothing)
    (next : (deeds : List Deed) (w v : World) (d : Deed) (answer : Answer) → RunsAlone hash_of name nothing deeds w → P deeds w
    → Befalls hash_of name w d answer v → P (deeds ++ d ∷ []) v) where
  further : (front ds : List Deed) (u w : World) → RunsAlone hash_of name nothing front u → P front u → RunsAlone hash_of name u ds w → P (front ++ ds) w
  further front [] u w runs p e = subst (λ f. P f w) (sym (append-nil front)) (subst (P front) (sym e) p)
  further front (x ∷ ds) u w runs p (answer, t, step, rest) =
      subst (λ f. P f w) (append_assoc front (x ∷ []) ds)
      (further (front ++ x ∷ []) ds t w (runs_on hash_of name front nothing u t x answer runs step) (next front u t x answer runs p step) rest)

  pub by_deeds : (deeds : List Deed) (w : World) → RunsAlone hash_of name nothing deeds w → P deeds w
  by_deeds deeds w runs = further [] deeds nothing w refl first runs

-- ---- what a delivery is

pub record Arrived (hash_of : List ℕ → ℕ) (name : ℕ) (w : World) (mail : Mail) (of : Snapshot) (answer : Answer) (v : World) : Type 0 where
  pub own : Held
  pub new : Replica
  pub outcome : Outcome
  pub out : List Mail
  pub answers : answer ≡ Came outcome
  pub step : delivered hash_of own (w.replica name) mail ≡ turn new outcome out
  pub after : v ≡ goes name new out [] (takes name (w.replica name) mail of outcome w)

pub arrived : (hash_of : List ℕ → ℕ) (name : ℕ) (w v : World) (mail : Mail) (of : Snapshot) (answer : Answer) → Befalls hash_of name w (Comes mail of) answer v
    → Arrived hash_of name w mail of answer v
arrived hash_of name w v mail of answer (new, outcome, out, a, (second, b, (own, is, step)), after) =
    let same : second ≡ outcome = came_one second outcome (sym b ∙ a) in
    record { own = own; new = new; outcome = outcome; out = out; answers = a; step = step ∙ ap (λ o. turn new o out) same; after = after }

-- ---- what a call does to the sessions

taken_stays : (name : ℕ) (c : Call) (w : World) → (calls name c w).taken ≡ w.taken
taken_stays name (Put place value) w = refl
taken_stays name (Remove key) w = refl
taken_stays name (RemoveField place) w = refl
taken_stays name Clear w = refl
taken_stays name Flush w = refl
taken_stays name (Ask peer) w = refl
taken_stays name (Retry number) w = refl
taken_stays name (Abandon number) w = refl
taken_stays name Restart w = refl

-- an ask was just made, of this session
pub record IsAsking (old : Replica) (c : Call) (o : Open) : Type 0 where
  pub peer : ℕ
  pub own : Held
  pub call : c ≡ Ask peer
  pub stands : IsMapOf own old.live
  pub session : o ≡ asking old peer own

-- the name stays, and each open session was open before, or was just asked for
pub record CallLeaves (old new : Replica) (c : Call) : Type 0 where
  pub same_name : new.name ≡ old.name
  pub sessions : (o : Open) → Contains new.sessions o → Contains old.sessions o ⊎ IsAsking old c o

leaves_as : (old new r : Replica) (c : Call) → new ≡ r → CallLeaves old r c → CallLeaves old new c
leaves_as old new r c e leaves = subst (λ x. CallLeaves old x c) (sym e) leaves

abandon_leaves : (old new : Replica) (c : Call) (o : Option Open) (answer : Answer) → Abandons old o new answer → CallLeaves old new c
abandon_leaves old new c None answer (n, a) = leaves_as old new old c n (record { same_name = refl; sessions = λ o h. inl h })
abandon_leaves old new c (Some x) answer (n, a) = leaves_as old new _ c n
    (record { same_name = refl; sessions = λ o h. inl (in_without x.session old.sessions o h) })

pub call_leaves : (old new : Replica) (c : Call) (answer : Answer) (out : List Mail) → IsCall old c new answer out → CallLeaves old new c
call_leaves old new (Put place value) answer out (x, put, few, n, a, o) =
    leaves_as old new _ (Put place value) n (record { same_name = refl; sessions = λ o h. inl h })
call_leaves old new (Remove key) answer out (over, just, n, counts, o) =
    leaves_as old new _ (Remove key) n (record { same_name = refl; sessions = λ o h. inl h })
call_leaves old new (RemoveField place) answer out (over, just, n, counts, o) =
    leaves_as old new _ (RemoveField place) n (record { same_name = refl; sessions = λ o h. inl h })
call_leaves old new Clear answer out (over, just, n, counts, o) = leaves_as old new _ Clear n (record { same_name = refl; sessions = λ o h. inl h })
call_leaves old new Flush answer out (a, inl (none, n, o)) = leaves_as old new _ Flush n (record { same_name = refl; sessions = λ o h. inl h })
call_leaves old new Flush answer out (a, inr (some, n, o)) = leaves_as old new _ Flush n (record { same_name = refl; sessions = λ o h. inl h })
call_leaves old new (Ask peer) answer out (own, is, few, left, n, a, o) =
    leaves_as old new _ (Ask peer) n
    (record { same_name = refl; sessions = λ o h. either o (Contains-append_cases old.sessions (asking old peer own ∷ []) o h) })
  where
    either : (o : Open) → Contains old.sessions o ⊎ Contains (asking old peer own ∷ []) o → Contains old.sessions o ⊎ IsAsking old (Ask peer) o
    either o (inl h) = inl h
    either o (inr h) = inr (record { peer = peer; own = own; call = refl; stands = is; session = in_one (asking old peer own) o h })
call_leaves old new (Retry number) answer out (n, a, o) = leaves_as old new _ (Retry number) n (record { same_name = refl; sessions = λ o h. inl h })
call_leaves old new (Abandon number) answer out (abandons, o) = abandon_leaves old new (Abandon number) (open_numbered old.sessions number) answer abandons
call_leaves old new Restart answer out (n, a, o) = leaves_as old new _ Restart n (record { same_name = refl; sessions = λ o h. nothing_in o h })

-- a delivery leaves the name
module _ (hash_of : List ℕ → ℕ) (name : ℕ) where
  -- ---- what is said of an open session, with the pages that it took

  pub record Tied (deeds : List Deed) (live : MapState) (takings : List Taking) (o : Open) : Type 0 where
    pub asked : IsAskAlone hash_of name deeds o.session o.own o.seen
    pub below : IsBelow (held_state o.own o.seen) live
    pub fetched : (a : Accepted) → o.accepted ≡ Some a → (root : Option (List ℕ)) × TookOpening hash_of name deeds o.session a.context root
        × Fetched hash_of o.own o.seen a.context root takings a.fetch

  abbrev pub AllTied : List Deed → MapState → (SessionValue → List Taking) → List Open → Type 0
  AllTied deeds live taken os = (o : Open) → Contains os o → Tied deeds live (taken o.session) o

  pub record TiedWorld (deeds : List Deed) (w : World) : Type 0 where
    pub named : (w.replica name).name ≡ name
    pub sessions : AllTied deeds (w.replica name).live w.taken (w.replica name).sessions

  -- ---- it is kept while more comes

  ask_more : (deeds : List Deed) (d : Deed) (s : SessionValue) (own : Held) (known : DotValue → Bool) → IsAskAlone hash_of name deeds s own known
      → IsAskAlone hash_of name (deeds ++ d ∷ []) s own known
  ask_more deeds d s own known t = record {
    asker = t.asker;
    front = t.front;
    later = t.later ++ d ∷ [];
    split = ap (λ x. x ++ d ∷ []) t.split ∙ append_assoc t.front (Calls (Ask s.answerer) ∷ t.later) (d ∷ []);
    before = t.before;
    runs = t.runs;
    numbered = t.numbered;
    own_then = t.own_then;
    known_then = t.known_then;
  }

  pub opening_more : (deeds : List Deed) (d : Deed) (s : SessionValue) (context : DotValue → Bool) (root : Option (List ℕ))
      → TookOpening hash_of name deeds s context root → TookOpening hash_of name (deeds ++ d ∷ []) s context root
  opening_more deeds d s context root t = record {
    front = t.front;
    of = t.of;
    later = t.later ++ d ∷ [];
    split = ap (λ x. x ++ d ∷ []) t.split ∙ append_assoc t.front (Comes (Opening s context root) t.of ∷ t.later) (d ∷ []);
    before = t.before;
    runs = t.runs;
    answer = t.answer;
    after = t.after;
    taken = t.taken;
    befell = t.befell;
  }

  more_tied : (deeds : List Deed) (d : Deed) (old new : MapState) (takings : List Taking) (o : Open) → IsBelow old new → Tied deeds old takings o
      → Tied (deeds ++ d ∷ []) new takings o
  more_tied deeds d old new takings o grew t = record {
    asked = ask_more deeds d o.session o.own o.seen t.asked;
    below = below_below (held_state o.own o.seen) old new t.below grew;
    fetched = λ a is. let f = t.fetched a is in (f.0, opening_more deeds d o.session a.context f.0 f.1, f.2);
  }

  taken_as : (deeds : List Deed) (live : MapState) (before after : List Taking) (o : Open) → after ≡ before → Tied deeds live before o → Tied deeds live after o
  taken_as deeds live before after o e t = subst (λ ts. Tied deeds live ts o) (sym e) t

  -- ---- a call

  called : (deeds : List Deed) (w : World) (c : Call) (new : Replica) (answer : Answer) (out : List Mail) → RunsAlone hash_of name nothing deeds w
      → TiedWorld deeds w
      → IsCall (w.replica name) c new answer out → AllTied (deeds ++ Calls c ∷ []) new.live w.taken new.sessions
  called deeds w c new answer out runs t step o h = either ((call_leaves (w.replica name) new c answer out step).sessions o h)
    where
      old : Replica
      old = w.replica name

      grew : IsBelow old.live new.live
      grew = call_grows old new c answer out step

      just_asked : IsAsking old c o → Tied (deeds ++ Calls c ∷ []) new.live (w.taken o.session) o
      just_asked a =
          subst (λ x. Tied (deeds ++ Calls c ∷ []) new.live (w.taken x.session) x) (sym a.session)
          (record {
            asked = record {
              asker = t.named;
              front = deeds;
              later = [];
              split = ap (λ x. deeds ++ Calls x ∷ []) a.call;
              before = w;
              runs = runs;
              numbered = refl;
              own_then = a.stands;
              known_then = refl;
            };
            below = below_below (held_state a.own old.live.has) old.live new.live (map_below a.own old.live a.stands) grew;
            fetched = λ x is. absurd cc;
          })

      either : Contains old.sessions o ⊎ IsAsking old c o → Tied (deeds ++ Calls c ∷ []) new.live (w.taken o.session) o
      either (inl there) = more_tied deeds (Calls c) old.live new.live (w.taken o.session) o grew (t.sessions o there)
      either (inr a) = just_asked a

  -- ---- a message

  module _ (deeds : List Deed) (w : World) (live : MapState) (before : AllTied deeds live w.taken (w.replica name).sessions) (own : Held) where
    abbrev r : Replica
    r = w.replica name

    -- where the message is an opening that is taken, it is the one of its session
    abbrev OpenedNow : Mail → Outcome → Type 0
    OpenedNow mail outcome = (s : SessionValue) (context : DotValue → Bool) (root : Option (List ℕ)) → mail ≡ Opening s context root → outcome ≡ Sent
        → TookOpening hash_of name deeds s context root

    abbrev Holds : Mail → Turn → Type 0
    Holds mail t = (of : Snapshot) → OpenedNow mail t.outcome → AllTied deeds live (takes name r mail of t.outcome w).taken t.new.sessions

    unmoved : (mail : Mail) → Holds mail (ignored r)
    unmoved (Delta d) of now = before
    unmoved (Hello s seen) of now = before
    unmoved (Opening s c root) of now = before
    unmoved (mail.Ask s p) of now = before
    unmoved (Page s sent) of now = before
    unmoved (Gone s) of now = before

    mismatched : (mail : Mail) → Holds mail (turn r Mismatch [])
    mismatched (Delta d) of now = before
    mismatched (Hello s seen) of now = before
    mismatched (Opening s c root) of now = before
    mismatched (mail.Ask s p) of now = before
    mismatched (Page s sent) of now = before
    mismatched (Gone s) of now = before

    left : (s : SessionValue) (o : Open) → Contains (without_session s r.sessions) o → Tied deeds live (w.taken o.session) o
    left s o h = before o (in_without s r.sessions o h)

    accepted_is : (a x : Accepted) (P : Accepted → Type 0) → Some a ≡ Some x → P a → P x
    accepted_is a x P e p = let one : a ≡ x = cc in subst P one p

    -- one session goes on, and each other stays
    went : (s : SessionValue) (more : List Taking) (next : Open) → next.session ≡ s → Tied deeds live more next
        → AllTied deeds live (changed w.taken s more) (advanced next r.sessions)
    went s more next is tied o h = either (in_advanced next r.sessions o h)
      where
        either : (o ≡ next) ⊎ (Contains r.sessions o × (same_session o.session next.session ≡ false)) → Tied deeds live (changed w.taken s more o.session) o
        either (inl e) = subst (λ x. Tied deeds live (changed w.taken s more x.session) x) (sym e)
            (taken_as deeds live more (changed w.taken s more next.session) next (changed_here w.taken s more next.session is) tied)
        either (inr (there, apart)) =
            taken_as deeds live (w.taken o.session) (changed w.taken s more o.session) o
            (changed_elsewhere w.taken s more o.session (ap (same_session o.session) (sym is) ∙ apart)) (before o there)

    opening_goes : (s : SessionValue) (c : DotValue → Bool) (root : Option (List ℕ)) (o : Open) (f : Fetch) → open_at r.sessions s ≡ Some o
        → take_opening hash_of o.own o.seen c root ≡ fetch.Took f
        → TookOpening hash_of name deeds s c root → AllTied deeds live (changed w.taken s []) (advanced (with_fetch o c f) r.sessions)
    opening_goes s c root o f there took opening =
        let found = found_open r.sessions s o there in
        let old = before o found.0 in
        let mine : TookOpening hash_of name deeds o.session c root = subst (λ u. TookOpening hash_of name deeds u c root) (sym found.1) opening in
        went s [] (with_fetch o c f) found.1 (record {
          asked = old.asked;
          below = old.below;
          fetched = λ x is.
              accepted_is (record { context = c; fetch = f }) x
              (λ y. (d : Option (List ℕ)) × TookOpening hash_of name deeds o.session y.context d × Fetched hash_of o.own o.seen y.context d [] y.fetch) is
              (root, mine, took);
        })

    page_goes : (s : SessionValue) (sent : SentValue) (o : Open) (a : Accepted) (f : Fetch) → open_at r.sessions s ≡ Some o → o.accepted ≡ Some a
        → take_page hash_of o.own o.seen a.context a.fetch sent.prefix sent.page sent.values ≡ fetch.Took f
        → AllTied deeds live (changed w.taken s (taking_of sent ∷ w.taken s)) (advanced (with_fetch o a.context f) r.sessions)
    page_goes s sent o a f there accepted took =
        let found = found_open r.sessions s o there in
        let old = before o found.0 in
        let was = old.fetched a accepted in
        let got : Fetched hash_of o.own o.seen a.context was.0 (w.taken s) a.fetch =
        subst (λ u. Fetched hash_of o.own o.seen a.context was.0 (w.taken u) a.fetch) found.1 was.2 in
        went s (taking_of sent ∷ w.taken s) (with_fetch o a.context f) found.1 (record {
          asked = old.asked;
          below = old.below;
          fetched = λ x is.
              accepted_is (record { context = a.context; fetch = f }) x
              (λ y. (d : Option (List ℕ)) × TookOpening hash_of name deeds o.session y.context d
              × Fetched hash_of o.own o.seen y.context d (taking_of sent ∷ w.taken s) y.fetch)
              is (was.0, was.1, (a.fetch, got, took));
        })

    taken_in : (mail : Mail) → Holds mail (delivered hash_of own r mail)
    taken_in = each_row hash_of own r Holds (record {
      ignoring = λ mail other. unmoved mail;
      mismatch = λ mail other. mismatched mail;
      delta = λ d of now. before;
      told_again = λ s seen k e of now. before;
      kept = λ s seen here none of now. before;
      gone = λ s p of now. before;
      page = λ s p k page of now. before;
      opening_done = λ s c root o f there first took complete of now. left o.session;
      opening_sent = λ s c root o f there first took of now. opening_goes s c root o f there took (now s c root refl refl);
      page_done = λ s sent o a f there accepted took complete of now. left o.session;
      page_sent = λ s sent o a f there accepted took of now. page_goes s sent o a f there accepted took;
      ended = λ s o there of now. left o.session;
    })

  -- ---- after all deeds

  -- an opening that is taken now
  pub opened_now : (deeds : List Deed) (w v : World) (mail : Mail) (of : Snapshot) (answer : Answer) → RunsAlone hash_of name nothing deeds w
      → Befalls hash_of name w (Comes mail of) answer v → (answer ≡ Came Sent) ⊎ (answer ≡ Came Done)
      → (s : SessionValue) (context : DotValue → Bool) (root : Option (List ℕ)) → mail ≡ Opening s context root
      → TookOpening hash_of name (deeds ++ Comes mail of ∷ []) s context root
  opened_now deeds w v mail of answer runs befalls taken s context root is = record {
    front = deeds;
    of = of;
    later = [];
    split = ap (λ m. deeds ++ Comes m of ∷ []) is;
    before = w;
    runs = runs;
    answer = answer;
    after = v;
    taken = taken;
    befell = subst (λ m. Befalls hash_of name w (Comes m of) answer v) is befalls;
  }

  tied_next : (deeds : List Deed) (w v : World) (d : Deed) (answer : Answer) → RunsAlone hash_of name nothing deeds w → TiedWorld deeds w
      → Befalls hash_of name w d answer v → TiedWorld (deeds ++ d ∷ []) v
  tied_next deeds w v (Calls c) answer runs t (new, out, step, after) =
      let x = goes name new out (w.outgoing name) (calls name c w) in
      let here : x.replica name ≡ new = here_new name new _ in
      subst (TiedWorld (deeds ++ Calls c ∷ [])) (sym after) (record {
        named = ap (λ (q : Replica). q.name) here ∙ (call_leaves (w.replica name) new c answer out step).same_name ∙ t.named;
        sessions = subst (λ q. AllTied (deeds ++ Calls c ∷ []) q.live x.taken q.sessions) (sym here)
            (subst (λ f. AllTied (deeds ++ Calls c ∷ []) new.live f new.sessions) (sym (taken_stays name c w)) (called deeds w c new answer out runs t step));
      })
  tied_next deeds w v (Comes mail of) answer runs t befalls = by (arrived hash_of name w v mail of answer befalls)
    where
      old : Replica
      old = w.replica name

      more : List Deed
      more = deeds ++ Comes mail of ∷ []

      by : Arrived hash_of name w mail of answer v → TiedWorld (deeds ++ Comes mail of ∷ []) v
      by d =
          let x = goes name d.new d.out [] (takes name old mail of d.outcome w) in
          let here : x.replica name ≡ d.new = here_new name d.new _ in
          let grew : IsBelow old.live d.new.live = subst (λ (y : Turn). IsBelow old.live y.new.live) d.step (delivery_grows hash_of d.own old mail) in
          let before : AllTied more d.new.live w.taken old.sessions =
          λ o h. more_tied deeds (Comes mail of) old.live d.new.live (w.taken o.session) o grew (t.sessions o h) in
          let now : (s : SessionValue) (context : DotValue → Bool) (root : Option (List ℕ)) → mail ≡ Opening s context root → d.outcome ≡ Sent
          → TookOpening hash_of name more s context root =
          λ s context root is sent. opened_now deeds w v mail of answer runs befalls (inl (d.answers ∙ ap Came sent)) s context root is in
          let all : AllTied more d.new.live (takes name old mail of d.outcome w).taken d.new.sessions =
          subst (Holds more w d.new.live before d.own mail) d.step (taken_in more w d.new.live before d.own mail) of now in
          subst (TiedWorld more) (sym d.after) (record {
            named = ap (λ (q : Replica). q.name) here ∙ ap (λ (y : Turn). y.new.name) (sym d.step) ∙ (unchanged hash_of d.own old mail).0 ∙ t.named;
            sessions = subst (λ q. AllTied more q.live x.taken q.sessions) (sym here) all;
          })

  pub tied : (deeds : List Deed) (w : World) → RunsAlone hash_of name nothing deeds w → TiedWorld deeds w
  tied = by_deeds hash_of name TiedWorld (record { named = refl; sessions = λ o h. nothing_in o h }) tied_next

pub sessions_alone : SessionsAlone
sessions_alone hash_of name deeds w runs o there =
    let t = (tied hash_of name deeds w runs).sessions o there in
    record {
      asked = t.asked;
      below = t.below;
      fetching = λ a accepted.
          let f = t.fetched a accepted in
          record {
            root = f.0;
            opening = f.1;
            fetched = f.2;
            pages = λ theirs root no_clash.
                fetching hash_of o.own theirs o.seen a.context (w.taken o.session) a.fetch (map_lawful o.own _ t.asked.own_then) no_clash
                (subst (λ d. Fetched hash_of o.own o.seen a.context d (w.taken o.session) a.fetch) root f.2);
          };
    }

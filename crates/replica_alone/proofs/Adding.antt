-- What a deed adds to what a replica by itself has seen: a message that ends a session adds what the opening stands for that the session took.
use Rattle.std.proofs.Common.{◌≡◌, ◌≢◌, ◌⊎◌, inl, inr, ℕ, List, [], ◌∷◌, ◌++◌, Bool, false, Option, Some, None, refl, sym, ap, ◌∙◌, subst, append_assoc}
use Rattle.std.specs.Prelude.{Contains}
use Rattle.std.proofs.lemmas.List.{append-nil}
use Rattle.dots.specs.Dot.{DotValue}
use Rattle.op_model.specs.Meaning.{MapState}
use Rattle.op_model.specs.Made.{put_at, remove_at, remove_field_at, clear_at}
use Rattle.op_model.specs.Operation.{Operation}
use Rattle.op_model.proofs.Members.{nothing_in}
use Rattle.op_model.proofs.Pairs.{grown-here}
use Rattle.wire_form.specs.Session.{SessionValue, same_session}
use Rattle.sync_model.specs.Differ.{Held}
use Rattle.replica_model.specs.Alone.{Deed, Calls, Comes, Befalls, RunsAlone}
use Rattle.replica_model.specs.Delivery.{Outcome, Joined, Sent, Done, Ignored, Mismatch, Ended, Turn, fetching, delivered}
use Rattle.replica_model.specs.Mail.{Mail, Delta, Hello, Opening, Page, Gone, IsTurnOf}
use Rattle.replica_model.specs.Mail as mail
use Rattle.replica_model.specs.Replica.{Replica, Open, Accepted, advanced, without_session}
use Rattle.replica_model.specs.SessionsAlone.{TookOpening}
use Rattle.replica_model.specs.Step.{Call, Put, Remove, RemoveField, Clear, Flush, Ask, Retry, Abandon, Restart, Answer, Came}
use Rattle.replica_model.specs.World.{World, Snapshot, nothing, changed, calls, takes}
use Rattle.replica_model.proofs.Deciding.{came_one}
use Rattle.replica_model.proofs.Found.{found_open, in_advanced, in_without, changed_here, changed_elsewhere}
use Rattle.replica_model.proofs.Rows.{IsNoDelta, each_row, other_unless_joined}
use Rattle.replica_model.proofs.SessionsAlone.{IsAsking, call_leaves, by_deeds}
use Rattle.replica_alone.specs.Ended.{AddsOpening, EndsAddAlone, JoinsAddAlone, OthersAddNothingAlone, CallsAddAlone}
use Rattle.replica_alone.proofs.Deeds.{CameNow, called_now, came_now, ignored_stays, mismatch_stays}

module _ (hash_of : List ℕ → ℕ) (name : ℕ) where
  -- ---- the opening of a session, by what it stands for

  record OpenedBy (deeds : List Deed) (s : SessionValue) (of : Snapshot) : Type 0 where
    context : DotValue → Bool
    root : Option (List ℕ)
    opening : TookOpening hash_of name deeds s context root
    stands_for : opening.of ≡ of

  opened_more : (deeds : List Deed) (d : Deed) (s : SessionValue) (of : Snapshot) → OpenedBy deeds s of → OpenedBy (deeds ++ d ∷ []) s of
  opened_more deeds d s of o = let t = o.opening in record {
    context = o.context;
    root = o.root;
    opening = record {
      front = t.front;
      of = t.of;
      later = t.later ++ d ∷ [];
      split = ap (λ x. x ++ d ∷ []) t.split ∙ append_assoc t.front (Comes (Opening s o.context o.root) t.of ∷ t.later) (d ∷ []);
      before = t.before;
      runs = t.runs;
      answer = t.answer;
      after = t.after;
      taken = t.taken;
      befell = t.befell;
    };
    stands_for = o.stands_for;
  }

  opened_now : (deeds : List Deed) (w v : World) (mail : Mail) (of : Snapshot) (answer : Answer) → RunsAlone hash_of name nothing deeds w
      → Befalls hash_of name w (Comes mail of) answer v → (answer ≡ Came Sent) ⊎ (answer ≡ Came Done)
      → (s : SessionValue) (context : DotValue → Bool) (root : Option (List ℕ)) → mail ≡ Opening s context root → OpenedBy (deeds ++ Comes mail of ∷ []) s of
  opened_now deeds w v mail of answer runs befalls taken s context root is = record {
    context = context;
    root = root;
    opening = record {
      front = deeds;
      of = of;
      later = [];
      split = ap (λ m. deeds ++ Comes m of ∷ []) is;
      before = w;
      runs = runs;
      answer = answer;
      after = v;
      taken = taken;
      befell = subst (λ m. Befalls hash_of name w (Comes m of) answer v) is befalls;
    };
    stands_for = refl;
  }

  -- each open session that accepted an opening took it, and what it stands for is accepted
  abbrev AllOpened : List Deed → (SessionValue → Snapshot) → List Open → Type 0
  AllOpened deeds accepted os = (o : Open) → Contains os o → (a : Accepted) → o.accepted ≡ Some a → OpenedBy deeds o.session (accepted o.session)

  -- ---- a message

  module _ (deeds : List Deed) (w : World) (before : AllOpened deeds w.accepted (w.replica name).sessions) (own : Held) (of : Snapshot) where
    abbrev r : Replica
    r = w.replica name

    -- where it is an opening that is taken, it is the one of its session
    abbrev OpensNow : Mail → Outcome → Type 0
    OpensNow mail outcome = (s : SessionValue) (context : DotValue → Bool) (root : Option (List ℕ)) → mail ≡ Opening s context root
        → (outcome ≡ Sent) ⊎ (outcome ≡ Done) → OpenedBy deeds s of

    -- the sessions that are open after it
    abbrev Goes : Mail → Turn → Type 0
    Goes mail t = OpensNow mail t.outcome → AllOpened deeds (takes name r mail of t.outcome w).accepted t.new.sessions

    left : (s : SessionValue) → AllOpened deeds w.accepted (without_session s r.sessions)
    left s o h = before o (in_without s r.sessions o h)

    -- one goes on, and each other stays
    went : (accepted : SessionValue → Snapshot) (next : Open) → OpenedBy deeds next.session (accepted next.session)
        → ((o : Open) → same_session o.session next.session ≡ false → accepted o.session ≡ w.accepted o.session)
        → AllOpened deeds accepted (advanced next r.sessions)
    went accepted next opened stays o h a is = either (in_advanced next r.sessions o h)
      where
        either : (o ≡ next) ⊎ (Contains r.sessions o × (same_session o.session next.session ≡ false)) → OpenedBy deeds o.session (accepted o.session)
        either (inl e) = subst (λ (x : Open). OpenedBy deeds x.session (accepted x.session)) (sym e) opened
        either (inr (there, apart)) = subst (OpenedBy deeds o.session) (sym (stays o apart)) (before o there a is)

    opening_goes : (s : SessionValue) (next : Open) → next.session ≡ s → OpenedBy deeds s of
        → AllOpened deeds (changed w.accepted s of) (advanced next r.sessions)
    opening_goes s next is opened =
        went (changed w.accepted s of) next
        (subst (OpenedBy deeds next.session) (sym (changed_here w.accepted s of next.session is)) (subst (λ u. OpenedBy deeds u of) (sym is) opened))
        (λ o apart. changed_elsewhere w.accepted s of o.session (ap (same_session o.session) (sym is) ∙ apart))

    goes_on : (mail : Mail) → Goes mail (delivered hash_of own r mail)
    goes_on = each_row hash_of own r Goes (record {
      ignoring = λ mail other now. subst (λ (u : World). AllOpened deeds u.accepted r.sessions) (sym (ignored_stays name r mail of w other)) before;
      mismatch = λ mail other now. subst (λ (u : World). AllOpened deeds u.accepted r.sessions) (sym (mismatch_stays name r mail of w other)) before;
      delta = λ d now. before;
      told_again = λ s seen k e now. before;
      kept = λ s seen here none now. before;
      gone = λ s p now. before;
      page = λ s p k page now. before;
      opening_done = λ s c root o f there first took complete now. left o.session;
      opening_sent = λ s c root o f there first took now.
          opening_goes s (fetching o c f) (found_open r.sessions s o there).1 (now s c root refl (inl refl));
      page_done = λ s sent o a f there accepted took complete now. left o.session;
      page_sent = λ s sent o a f there accepted took now.
          went w.accepted (fetching o a.context f) (before o (found_open r.sessions s o there).0 a accepted) (λ x apart. refl);
      ended = λ s o there now. left o.session;
    })

    -- the session that ends by it, and what is seen more
    record AddsNow (mail : Mail) : Type 0 where
      session : SessionValue
      turn : IsTurnOf session mail
      shown : Snapshot
      opened : OpenedBy deeds session shown
      adds : (takes name r mail of Done w).seen name ≡ w.seen name ++ shown.seen

    adding : (mail : Mail) → (delivered hash_of own r mail).outcome ≡ Done → OpensNow mail Done → AddsNow mail
    adding = each_row hash_of own r (λ mail t. t.outcome ≡ Done → OpensNow mail Done → AddsNow mail) (record {
      ignoring = λ mail other e now. absurd cc;
      mismatch = λ mail other e now. absurd cc;
      delta = λ d e now. absurd cc;
      told_again = λ s seen k is e now. absurd cc;
      kept = λ s seen here none e now. absurd cc;
      gone = λ s p e now. absurd cc;
      page = λ s p k page e now. absurd cc;
      opening_done = λ s c root o f there first took complete e now.
          record { session = s; turn = refl; shown = of; opened = now s c root refl (inr refl); adds = grown-here name (w.seen name) of.seen };
      opening_sent = λ s c root o f there first took e now. absurd cc;
      page_done = λ s sent o a f there accepted took complete e now.
          let found = found_open r.sessions s o there in
          record {
            session = s;
            turn = refl;
            shown = w.accepted s;
            opened = subst (λ u. OpenedBy deeds u (w.accepted u)) found.1 (before o found.0 a accepted);
            adds = grown-here name (w.seen name) (w.accepted s).seen;
          };
      page_sent = λ s sent o a f there accepted took e now. absurd cc;
      ended = λ s o there e now. absurd cc;
    })

  -- ---- deeds

  accepted_stays : (c : Call) (w : World) → (calls name c w).accepted ≡ w.accepted
  accepted_stays (Put place value) w = refl
  accepted_stays (Remove key) w = refl
  accepted_stays (RemoveField place) w = refl
  accepted_stays Clear w = refl
  accepted_stays Flush w = refl
  accepted_stays (Ask peer) w = refl
  accepted_stays (Retry number) w = refl
  accepted_stays (Abandon number) w = refl
  accepted_stays Restart w = refl

  abbrev Opened : List Deed → World → Type 0
  Opened deeds w = AllOpened deeds w.accepted (w.replica name).sessions

  opened_still : (deeds : List Deed) (d : Deed) (w : World) → Opened deeds w → AllOpened (deeds ++ d ∷ []) w.accepted (w.replica name).sessions
  opened_still deeds d w all o h a is = opened_more deeds d o.session (w.accepted o.session) (all o h a is)

  taken_as : (answer : Answer) (outcome : Outcome) → answer ≡ Came outcome → (outcome ≡ Sent) ⊎ (outcome ≡ Done) → (answer ≡ Came Sent) ⊎ (answer ≡ Came Done)
  taken_as answer outcome answers (inl e) = inl (answers ∙ ap Came e)
  taken_as answer outcome answers (inr e) = inr (answers ∙ ap Came e)

  opened_next : (deeds : List Deed) (w v : World) (d : Deed) (answer : Answer) → RunsAlone hash_of name nothing deeds w → Opened deeds w
      → Befalls hash_of name w d answer v → Opened (deeds ++ d ∷ []) v
  opened_next deeds w v (Calls c) answer runs all befalls o h a is =
      let d = called_now hash_of name w v c answer befalls in
      either (ap (λ (x : World). x.accepted) d.after ∙ accepted_stays c w)
      ((call_leaves (w.replica name) d.new c answer d.out d.step).sessions o (subst (λ (x : Replica). Contains x.sessions o) d.here h))
    where
      either : v.accepted ≡ w.accepted → Contains (w.replica name).sessions o ⊎ IsAsking (w.replica name) c o
          → OpenedBy (deeds ++ Calls c ∷ []) o.session (v.accepted o.session)
      either same (inl there) =
          subst (OpenedBy (deeds ++ Calls c ∷ []) o.session) (sym (ap (λ f. f o.session) same)) (opened_still deeds (Calls c) w all o there a is)
      either same (inr asks) = let none : None ≡ Some a = sym (ap (λ (x : Open). x.accepted) asks.session) ∙ is in absurd cc
  opened_next deeds w v (Comes mail of) answer runs all befalls o h a is = by (came_now hash_of name w v mail of answer befalls)
    where
      more : List Deed
      more = deeds ++ Comes mail of ∷ []

      by : CameNow hash_of name w mail of answer v → OpenedBy (deeds ++ Comes mail of ∷ []) o.session (v.accepted o.session)
      by d =
          let goes = subst (Goes more w (opened_still deeds (Comes mail of) w all) d.own of mail) d.step
          (goes_on more w (opened_still deeds (Comes mail of) w all) d.own of mail)
          (λ s context root same taken. opened_now deeds w v mail of answer runs befalls (taken_as answer d.outcome d.answers taken) s context root same) in
          subst (OpenedBy more o.session) (sym (ap (λ (x : World). x.accepted o.session) d.after))
          (goes o (subst (λ (x : Replica). Contains x.sessions o) d.here h) a is)

  opened : (deeds : List Deed) (w : World) → RunsAlone hash_of name nothing deeds w → Opened deeds w
  opened = by_deeds hash_of name Opened (λ o h. nothing_in o h) opened_next

pub ends_add_alone : EndsAddAlone
ends_add_alone hash_of name deeds w v mail of runs answer befalls is_done = by (came_now hash_of name w v mail of answer befalls)
  where
    by : CameNow hash_of name w mail of answer v → AddsOpening hash_of name deeds w v mail of
    by d =
        let more = deeds ++ Comes mail of ∷ [] in
        let before = opened_still hash_of name deeds (Comes mail of) w (opened hash_of name deeds w runs) in
        let done : d.outcome ≡ Done = came_one d.outcome Done (sym d.answers ∙ is_done) in
        let now = adding hash_of name more w before d.own of mail (ap (λ (t : Turn). t.outcome) d.step ∙ done)
        (λ s context root same taken. opened_now hash_of name deeds w v mail of answer runs befalls (inr is_done) s context root same) in
        record {
          session = now.session;
          turn = now.turn;
          context = now.opened.context;
          root = now.opened.root;
          opening = now.opened.opening;
          adds = ap (λ (x : World). x.seen name) d.after ∙ ap (λ o. (takes name (w.replica name) mail of o w).seen name) done
              ∙ now.adds ∙ ap (λ (x : Snapshot). w.seen name ++ x.seen) (sym now.opened.stands_for);
        }

-- ---- what is joined

joined_delta : (hash_of : List ℕ → ℕ) (own : Held) (r : Replica) (mail : Mail) → (delivered hash_of own r mail).outcome ≡ Joined
    → (d : MapState) × (mail ≡ Delta d)
joined_delta hash_of own r = each_row hash_of own r (λ mail t. t.outcome ≡ Joined → (d : MapState) × (mail ≡ Delta d)) (record {
  ignoring = λ mail other e. absurd cc;
  mismatch = λ mail other e. absurd cc;
  delta = λ d e. (d, refl);
  told_again = λ s seen k is e. absurd cc;
  kept = λ s seen here none e. absurd cc;
  gone = λ s p e. absurd cc;
  page = λ s p k page e. absurd cc;
  opening_done = λ s c root o f there first took complete e. absurd cc;
  opening_sent = λ s c root o f there first took e. absurd cc;
  page_done = λ s sent o a f there accepted took complete e. absurd cc;
  page_sent = λ s sent o a f there accepted took e. absurd cc;
  ended = λ s o there e. absurd cc;
})

pub joins_add_alone : JoinsAddAlone
joins_add_alone hash_of name w v mail of answer befalls is_joined = by (came_now hash_of name w v mail of answer befalls)
  where
    by : CameNow hash_of name w mail of answer v → ((d : MapState) × (mail ≡ Delta d)) × (v.seen name ≡ w.seen name ++ of.seen)
    by d =
        let joined : d.outcome ≡ Joined = came_one d.outcome Joined (sym d.answers ∙ is_joined) in
        let delta = joined_delta hash_of d.own (w.replica name) mail (ap (λ (t : Turn). t.outcome) d.step ∙ joined) in (
          delta,
          ap (λ (x : World). x.seen name) d.after ∙ ap (λ o. (takes name (w.replica name) mail of o w).seen name) joined
              ∙ ap (λ m. (takes name (w.replica name) m of Joined w).seen name) delta.1 ∙ grown-here name (w.seen name) of.seen,
        )

-- ---- what adds nothing

seen_as_it_was : (name : ℕ) (r : Replica) (mail : Mail) (of : Snapshot) (outcome : Outcome) (w : World) → IsNoDelta mail → outcome ≢ Done → outcome ≢ Joined
    → (takes name r mail of outcome w).seen ≡ w.seen
seen_as_it_was name r mail of Joined w other not_done not_joined = absurd (not_joined refl)
seen_as_it_was name r mail of Done w other not_done not_joined = absurd (not_done refl)
seen_as_it_was name r mail of Ignored w other not_done not_joined = ap (λ (x : World). x.seen) (ignored_stays name r mail of w other)
seen_as_it_was name r mail of Mismatch w other not_done not_joined = ap (λ (x : World). x.seen) (mismatch_stays name r mail of w other)
seen_as_it_was name r (Delta d) of Sent w other not_done not_joined = absurd other
seen_as_it_was name r (Hello s seen) of Sent w other not_done not_joined = refl
seen_as_it_was name r (Opening s context root) of Sent w other not_done not_joined = refl
seen_as_it_was name r (mail.Ask s prefix) of Sent w other not_done not_joined = refl
seen_as_it_was name r (Page s sent) of Sent w other not_done not_joined = refl
seen_as_it_was name r (Gone s) of Sent w other not_done not_joined = refl
seen_as_it_was name r (Delta d) of Ended w other not_done not_joined = absurd other
seen_as_it_was name r (Hello s seen) of Ended w other not_done not_joined = refl
seen_as_it_was name r (Opening s context root) of Ended w other not_done not_joined = refl
seen_as_it_was name r (mail.Ask s prefix) of Ended w other not_done not_joined = refl
seen_as_it_was name r (Page s sent) of Ended w other not_done not_joined = refl
seen_as_it_was name r (Gone s) of Ended w other not_done not_joined = refl

pub others_add_nothing_alone : OthersAddNothingAlone
others_add_nothing_alone hash_of name w v mail of answer befalls not_done not_joined =
    let d = came_now hash_of name w v mail of answer befalls in
    let apart : d.outcome ≢ Joined = λ e. not_joined (d.answers ∙ ap Came e) in
    let other = other_unless_joined hash_of d.own (w.replica name) mail d.outcome (ap (λ (t : Turn). t.outcome) d.step) apart in
    let same = seen_as_it_was name (w.replica name) mail of d.outcome w other (λ e. not_done (d.answers ∙ ap Came e)) apart in
    ap (λ (x : World). x.seen name) d.after ∙ ap (λ f. f name) same

-- ---- what a call makes

IsMade : (name : ℕ) (w u : World) → Type 0
IsMade name w u = (more : List Operation) × (u.made ≡ w.made ++ more) × (u.seen name ≡ w.seen name ++ more)

makes_none : (name : ℕ) (w u : World) → u.made ≡ w.made → u.seen ≡ w.seen → IsMade name w u
unfolding IsMade
makes_none name w u made seen = ([], made ∙ sym (append-nil w.made), ap (λ f. f name) seen ∙ sym (append-nil (w.seen name)))

call_makes : (name : ℕ) (c : Call) (w : World) → IsMade name w (calls name c w)
unfolding IsMade
call_makes name (Put place value) w = (_, refl, grown-here name (w.seen name) (put_at (w.seen name) name place value))
call_makes name (Remove key) w = (_, refl, grown-here name (w.seen name) (remove_at (w.seen name) key))
call_makes name (RemoveField place) w = (_, refl, grown-here name (w.seen name) (remove_field_at (w.seen name) place))
call_makes name Clear w = (_, refl, grown-here name (w.seen name) (clear_at (w.seen name)))
call_makes name Flush w = makes_none name w (calls name Flush w) refl refl
call_makes name (Ask peer) w = makes_none name w w refl refl
call_makes name (Retry number) w = makes_none name w w refl refl
call_makes name (Abandon number) w = makes_none name w w refl refl
call_makes name Restart w = makes_none name w w refl refl

pub calls_add_alone : CallsAddAlone
unfolding IsMade
calls_add_alone hash_of name w v c answer befalls =
    let d = called_now hash_of name w v c answer befalls in
    let u = call_makes name c w in
    (u.0, ap (λ (x : World). x.made) d.after ∙ u.1, ap (λ (x : World). x.seen name) d.after ∙ u.2)

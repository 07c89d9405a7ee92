-- A session of a replica by itself has one ask and takes one opening: its number is past those of all that were opened before, and it accepts no
-- other once it accepted one.
use Rattle.std.proofs.Common.{◌≡◌, ◌⊎◌, inl, inr, ℕ, ◌+◌, ◌≤◌, List, [], ◌∷◌, ◌++◌, Bool, true, false, not, Option, Some, None, refl, sym, ap, ◌∙◌, subst}
use Rattle.std.proofs.Common.{arith}
use Rattle.std.specs.Prelude.{Contains}
use Rattle.std.proofs.lemmas.Bool.{false≢true}
use Rattle.dots.specs.Dot.{DotValue}
use Rattle.op_model.proofs.Members.{nothing_in, from_filter}
use Rattle.prefix_digest.specs.MapOf.{IsMapOf}
use Rattle.prefix_digest.proofs.MapsOf.{maps_one}
use Rattle.sync_model.specs.Differ.{Held}
use Rattle.wire_form.specs.Session.{SessionValue, same_session}
use Rattle.replica_model.specs.Alone.{Deed, Calls, Comes, Befalls, RunsAlone}
use Rattle.replica_model.specs.Delivery.{Outcome, Sent, Done, Mismatch, Turn, turn, ignored, fetching, delivered}
use Rattle.replica_model.specs.Mail.{Mail, Delta, Hello, Opening, Page, Gone}
use Rattle.replica_model.specs.Mail as mail
use Rattle.replica_model.specs.Replica.{Replica, Open, Accepted, advanced, without_session}
use Rattle.replica_model.specs.SessionsAlone.{TookOpening, OneAskAlone, OneOpeningAlone}
use Rattle.replica_model.specs.Step.{Ask, Do, Take, Answer, Came, IsCall}
use Rattle.replica_model.specs.World.{World, Snapshot, nothing, calls, takes, goes}
use Rattle.replica_model.proofs.Asks.{delivery_opens, call_opens}
use Rattle.replica_model.proofs.Deciding.{came_one}
use Rattle.replica_model.proofs.Ended.{here_new}
use Rattle.replica_model.proofs.Found.{found_open, in_advanced, in_without, one_is_same}
use Rattle.replica_model.proofs.One.{steps_one}
use Rattle.replica_model.proofs.Rows.{each_row}
use Rattle.replica_model.proofs.SessionsAlone.{Arrived, arrived, IsAsking, call_leaves, by_deeds}

-- ---- deeds decide the world

module _ (hash_of : List ℕ → ℕ) (name : ℕ) where
  pub befalls_one : (w v v' : World) (d : Deed) (answer answer' : Answer) → Befalls hash_of name w d answer v → Befalls hash_of name w d answer' v'
      → (answer ≡ answer') × (v ≡ v')
  befalls_one w v v' (Calls c) answer answer' (new, out, step, e) (new', out', step', e') =
      let one = steps_one hash_of (w.replica name) new new' (Do c) answer answer' out out' step step' in
      (one.answers, e ∙ (λ i. goes name (one.replica i) (one.sent i) (w.outgoing name) (calls name c w)) ∙ sym e')
  befalls_one w v v' (Comes mail of) answer answer' (new, outcome, out, a, step, e) (new', outcome', out', a', step', e') =
      let one = steps_one hash_of (w.replica name) new new' (Take mail) answer answer' out out' step step' in
      let same : outcome ≡ outcome' = came_one outcome outcome' (sym a ∙ one.answers ∙ a') in
      (one.answers, e ∙ (λ i. goes name (one.replica i) (one.sent i) [] (takes name (w.replica name) mail of (same i) w)) ∙ sym e')

  pub runs_one : (deeds : List Deed) (u w v : World) → RunsAlone hash_of name u deeds w → RunsAlone hash_of name u deeds v → w ≡ v
  runs_one [] u w v e f = e ∙ sym f
  runs_one (x ∷ deeds) u w v (answer, t, step, rest) (answer', t', step', rest') =
      let same = (befalls_one u t t' x answer answer' step step').1 in
      runs_one deeds t w v rest (subst (λ s. RunsAlone hash_of name s deeds v) (sym same) rest')

  runs_split : (front more : List Deed) (u w : World) → RunsAlone hash_of name u (front ++ more) w → (t : World) × RunsAlone hash_of name u front t
      × RunsAlone hash_of name t more w
  runs_split [] more u w runs = (u, refl, runs)
  runs_split (d ∷ front) more u w (answer, v, step, rest) =
      let later = runs_split front more v w rest in
      (later.0, (answer, v, step, later.1), later.2)

  -- a front that goes on with a deed, which befell after it
  passed : (front later : List Deed) (d : Deed) (t u w : World) (answer : Answer) → RunsAlone hash_of name nothing front t → Befalls hash_of name t d answer u
      → RunsAlone hash_of name nothing (front ++ d ∷ later) w → RunsAlone hash_of name u later w
  passed front later d t u w answer runs befell all =
      let parts = runs_split front (d ∷ later) nothing w all in
      step parts.0 (runs_one front nothing parts.0 t parts.1 runs) parts.2
    where
      step : (x : World) → x ≡ t → RunsAlone hash_of name x (d ∷ later) w → RunsAlone hash_of name u later w
      step x same (other, v, first, rest) =
          let one = befalls_one t v u d other answer (subst (λ y. Befalls hash_of name y d other v) same first) befell in
          subst (λ y. RunsAlone hash_of name y later w) one.1 rest

-- ---- two fronts of one list

first_of : Deed → List Deed → Deed
first_of d [] = d
first_of d (x ∷ xs) = x

rest_of : List Deed → List Deed
rest_of [] = []
rest_of (x ∷ xs) = xs

-- one goes on with its deed to the other
GoesOnWith : Deed → List Deed → List Deed → Type 0
GoesOnWith d xs ys = (more : List Deed) × (ys ≡ xs ++ d ∷ more)

abbrev AreFronts : Deed → List Deed → Deed → List Deed → Type 0
AreFronts d xs e ys = ((xs ≡ ys) × (d ≡ e)) ⊎ (GoesOnWith d xs ys ⊎ GoesOnWith e ys xs)

fronts : (d e : Deed) (xs ys us vs : List Deed) → xs ++ d ∷ us ≡ ys ++ e ∷ vs → AreFronts d xs e ys
unfolding GoesOnWith first_of rest_of
fronts d e [] [] us vs same = inl (refl, ap (first_of d) same)
fronts d e [] (y ∷ ys) us vs same = inr (inl (ys, ap (λ z. z ∷ ys) (sym (ap (first_of d) same))))
fronts d e (x ∷ xs) [] us vs same = inr (inr (xs, ap (λ z. z ∷ xs) (ap (first_of d) same)))
fronts d e (x ∷ xs) (y ∷ ys) us vs same = step (ap (first_of d) same) (fronts d e xs ys us vs (ap rest_of same))
  where
    step : x ≡ y → AreFronts d xs e ys → AreFronts d (x ∷ xs) e (y ∷ ys)
    step one (inl (both, is)) = inl ((λ i. one i ∷ both i), is)
    step one (inr (inl (more, longer))) = inr (inl (more, (λ i. sym one i ∷ longer i)))
    step one (inr (inr (more, longer))) = inr (inr (more, (λ i. one i ∷ longer i)))

-- ---- what a delivery does to the sessions

abbrev HasAccepted : Open → Type 0
HasAccepted o = (a : Accepted) × (o.accepted ≡ Some a)

-- it is one of these, or one of their sessions that accepted an opening
record IsOneOf (os : List Open) (o : Open) : Type 0 where
  was : Open
  there : Contains os was
  session : o.session ≡ was.session
  or_accepted : (o ≡ was) ⊎ HasAccepted o

-- each of these that is of the session accepted an opening
abbrev AllAccepted : SessionValue → List Open → Type 0
AllAccepted s os = (o : Open) → Contains os o → o.session ≡ s → HasAccepted o

abbrev IsTakenOutcome : Outcome → Type 0
IsTakenOutcome outcome = (outcome ≡ Sent) ⊎ (outcome ≡ Done)

module _ (r : Replica) where
  -- an opening that is taken: its session was open and had accepted none, and afterwards it is not open or has
  record TakesFirst (s : SessionValue) (os : List Open) : Type 0 where
    was : Open
    there : Contains r.sessions was
    session : was.session ≡ s
    none : was.accepted ≡ None
    accepted : AllAccepted s os

  abbrev Takes : Mail → Turn → Type 0
  Takes (Delta d) t = Unit {0}
  Takes (Hello s seen) t = Unit {0}
  Takes (Opening s context root) t = IsTakenOutcome t.outcome → TakesFirst s t.new.sessions
  Takes (mail.Ask s prefix) t = Unit {0}
  Takes (Page s sent) t = Unit {0}
  Takes (Gone s) t = Unit {0}

module _ (hash_of : List ℕ → ℕ) (own : Held) (r : Replica) where
  abbrev Leaves : List Open → Type 0
  Leaves os = (o : Open) → Contains os o → IsOneOf r.sessions o

  as_they_were : Leaves r.sessions
  as_they_were o h = record { was = o; there = h; session = refl; or_accepted = inl refl }

  less : (s : SessionValue) → Leaves (without_session s r.sessions)
  less s o h = as_they_were o (in_without s r.sessions o h)

  further : (next o : Open) → Contains r.sessions o → next.session ≡ o.session → HasAccepted next → Leaves (advanced next r.sessions)
  further next o there same accepted x h = either (in_advanced next r.sessions x h)
    where
      either : (x ≡ next) ⊎ (Contains r.sessions x × (same_session x.session next.session ≡ false)) → IsOneOf r.sessions x
      either (inl e) = subst (IsOneOf r.sessions) (sym e) (record { was = o; there = there; session = same; or_accepted = inr accepted })
      either (inr (h, apart)) = as_they_were x h

  delivery_leaves : (mail : Mail) → Leaves (delivered hash_of own r mail).new.sessions
  delivery_leaves = each_row hash_of own r (λ mail t. Leaves t.new.sessions) (record {
    ignoring = λ mail other. as_they_were;
    mismatch = λ mail other. as_they_were;
    delta = λ d. as_they_were;
    told_again = λ s seen k e. as_they_were;
    kept = λ s seen here none. as_they_were;
    gone = λ s p. as_they_were;
    page = λ s p k page. as_they_were;
    opening_done = λ s c root o f there first took complete. less o.session;
    opening_sent = λ s c root o f there first took. further (fetching o c f) o (found_open r.sessions s o there).0 refl
        (record { context = c; fetch = f }, refl);
    page_done = λ s sent o a f there accepted took complete. less o.session;
    page_sent = λ s sent o a f there accepted took. further (fetching o a.context f) o (found_open r.sessions s o there).0 refl
        (record { context = a.context; fetch = f }, refl);
    ended = λ s o there. less o.session;
  })

  unmoved : (mail : Mail) → Takes r mail (ignored r)
  unmoved (Delta d) = tt
  unmoved (Hello s seen) = tt
  unmoved (Opening s context root) = λ is. neither is
    where
      neither : IsTakenOutcome Rattle.replica_model.specs.Delivery.Ignored → TakesFirst r s r.sessions
      neither (inl e) = absurd cc
      neither (inr e) = absurd cc
  unmoved (mail.Ask s prefix) = tt
  unmoved (Page s sent) = tt
  unmoved (Gone s) = tt

  mismatched : (mail : Mail) → Takes r mail (turn r Mismatch [])
  mismatched (Delta d) = tt
  mismatched (Hello s seen) = tt
  mismatched (Opening s context root) = λ is. neither is
    where
      neither : IsTakenOutcome Mismatch → TakesFirst r s r.sessions
      neither (inl e) = absurd cc
      neither (inr e) = absurd cc
  mismatched (mail.Ask s prefix) = tt
  mismatched (Page s sent) = tt
  mismatched (Gone s) = tt

  -- none of a session is left where it closed
  none_left : (s t : SessionValue) → t ≡ s → AllAccepted s (without_session t r.sessions)
  none_left s t same o h is =
      let kept = (from_filter (λ x. not (same_session x.session t)) r.sessions o h).1 in
      let one : same_session o.session t ≡ true = one_is_same o.session t (is ∙ sym same) in
      let apart : not true ≡ true = ap not (sym one) ∙ kept in
      absurd (false≢true apart)

  gone_on : (s : SessionValue) (next : Open) → next.session ≡ s → HasAccepted next → AllAccepted s (advanced next r.sessions)
  gone_on s next same accepted o h is = either (in_advanced next r.sessions o h)
    where
      either : (o ≡ next) ⊎ (Contains r.sessions o × (same_session o.session next.session ≡ false)) → HasAccepted o
      either (inl e) = subst HasAccepted (sym e) accepted
      either (inr (there, apart)) = absurd (false≢true (sym apart ∙ one_is_same o.session next.session (is ∙ sym same)))

  opening_takes : (mail : Mail) → Takes r mail (delivered hash_of own r mail)
  opening_takes = each_row hash_of own r (Takes r) (record {
    ignoring = λ mail other. unmoved mail;
    mismatch = λ mail other. mismatched mail;
    delta = λ d. tt;
    told_again = λ s seen k e. tt;
    kept = λ s seen here none. tt;
    gone = λ s p. tt;
    page = λ s p k page. tt;
    opening_done = λ s c root o f there first took complete is.
        let found = found_open r.sessions s o there in
        record { was = o; there = found.0; session = found.1; none = first; accepted = none_left s o.session found.1 };
    opening_sent = λ s c root o f there first took is.
        let found = found_open r.sessions s o there in
        record {
          was = o;
          there = found.0;
          session = found.1;
          none = first;
          accepted = gone_on s (fetching o c f) found.1 (record { context = c; fetch = f }, refl);
        };
    page_done = λ s sent o a f there accepted took complete. tt;
    page_sent = λ s sent o a f there accepted took. tt;
    ended = λ s o there. tt;
  })

-- ---- what holds of a session ever since

module _ (hash_of : List ℕ → ℕ) (name : ℕ) where
  -- numbers go up
  deed_opens : (w v : World) (d : Deed) (answer : Answer) → Befalls hash_of name w d answer v → (w.replica name).opened ≤ (v.replica name).opened
  deed_opens w v (Calls c) answer (new, out, step, after) =
      let here : v.replica name ≡ new = ap (λ (x : World). x.replica name) after ∙ here_new name new _ in
      subst (λ (q : Replica). (w.replica name).opened ≤ q.opened) (sym here) (call_opens (w.replica name) new c answer out step)
  deed_opens w v (Comes mail of) answer befalls = by (arrived hash_of name w v mail of answer befalls)
    where
      by : Arrived hash_of name w mail of answer v → (w.replica name).opened ≤ (v.replica name).opened
      by d =
          let here : v.replica name ≡ d.new = ap (λ (x : World). x.replica name) d.after ∙ here_new name d.new _ in
          subst (λ (q : Replica). (w.replica name).opened ≤ q.opened) (sym here)
          (subst (λ (t : Turn). (w.replica name).opened ≤ t.new.opened) d.step (delivery_opens hash_of d.own (w.replica name) mail))

  runs_open : (deeds : List Deed) (u w : World) → RunsAlone hash_of name u deeds w → (u.replica name).opened ≤ (w.replica name).opened
  runs_open [] u w same = subst (λ (x : World). (u.replica name).opened ≤ (x.replica name).opened) (sym same) (omega arith)
  runs_open (d ∷ deeds) u w (answer, v, befalls, rest) = omega (arith, deed_opens u v d answer befalls, runs_open deeds v w rest)

  -- each open session after a deed was open before, or accepted an opening since, or was just asked for, by the next number
  abbrev AfterDeed : Replica → Replica → Open → Type 0
  AfterDeed old new o = IsOneOf old.sessions o ⊎ ((o.session.number ≡ old.opened + 1) × (new.opened ≡ old.opened + 1))

  asked_here : (old new : Replica) (peer : ℕ) (answer : Answer) (out : List Mail) → IsCall old (Ask peer) new answer out → new.opened ≡ old.opened + 1
  asked_here old new peer answer out (own, is, few, left, n, a, o) = ap (λ (r : Replica). r.opened) n

  deed_leaves : (w v : World) (d : Deed) (answer : Answer) → Befalls hash_of name w d answer v → (o : Open) → Contains (v.replica name).sessions o
      → AfterDeed (w.replica name) (v.replica name) o
  deed_leaves w v (Calls c) answer (new, out, step, after) o h =
      either ((call_leaves (w.replica name) new c answer out step).sessions o (subst (λ (q : Replica). Contains q.sessions o) here h))
    where
      here : v.replica name ≡ new
      here = ap (λ (x : World). x.replica name) after ∙ here_new name new _

      either : Contains (w.replica name).sessions o ⊎ IsAsking (w.replica name) c o → AfterDeed (w.replica name) (v.replica name) o
      either (inl there) = inl (record { was = o; there = there; session = refl; or_accepted = inl refl })
      either (inr a) =
          inr (
            ap (λ (x : Open). x.session.number) a.session,
            ap (λ (q : Replica). q.opened) here ∙ asked_here (w.replica name) new a.peer answer out
                (subst (λ x. IsCall (w.replica name) x new answer out) a.call step),
          )
  deed_leaves w v (Comes mail of) answer befalls o h = inl (by (arrived hash_of name w v mail of answer befalls))
    where
      by : Arrived hash_of name w mail of answer v → IsOneOf (w.replica name).sessions o
      by d =
          let here : v.replica name ≡ d.new = ap (λ (x : World). x.replica name) d.after ∙ here_new name d.new _ in
          let there : Contains d.new.sessions o = subst (λ (q : Replica). Contains q.sessions o) here h in
          delivery_leaves hash_of d.own (w.replica name) mail o (subst (λ (t : Turn). Contains t.new.sessions o) (sym d.step) there)

  -- no open session has a number past the last
  abbrev AllNumbered : List Deed → World → Type 0
  AllNumbered deeds w = (o : Open) → Contains (w.replica name).sessions o → o.session.number ≤ (w.replica name).opened

  numbered_next : (deeds : List Deed) (w v : World) (d : Deed) (answer : Answer) → RunsAlone hash_of name nothing deeds w → AllNumbered deeds w
      → Befalls hash_of name w d answer v → AllNumbered (deeds ++ d ∷ []) v
  numbered_next deeds w v d answer runs all befalls o h = either (deed_leaves w v d answer befalls o h)
    where
      either : AfterDeed (w.replica name) (v.replica name) o → o.session.number ≤ (v.replica name).opened
      either (inl one) = omega (arith, ap (λ (s : SessionValue). s.number) one.session, all one.was one.there, deed_opens w v d answer befalls)
      either (inr (new, last)) = omega (arith, new, last)

  numbered : (deeds : List Deed) (w : World) → RunsAlone hash_of name nothing deeds w → AllNumbered deeds w
  numbered = by_deeds hash_of name AllNumbered (λ o h. nothing_in o h) numbered_next

  -- a session that took its opening: it accepted one wherever it is open, and is not opened anew
  record TookOne (s : SessionValue) (r : Replica) : Type 0 where
    number : s.number ≤ r.opened
    accepted : AllAccepted s r.sessions

  took_next : (s : SessionValue) (w v : World) (d : Deed) (answer : Answer) → Befalls hash_of name w d answer v → TookOne s (w.replica name)
      → TookOne s (v.replica name)
  took_next s w v d answer befalls t = record {
    number = omega (arith, t.number, deed_opens w v d answer befalls);
    accepted = λ o h is. either o is (deed_leaves w v d answer befalls o h);
  }
    where
      same_or : (o : Open) (one : IsOneOf (w.replica name).sessions o) → o.session ≡ s → (o ≡ one.was) ⊎ HasAccepted o → HasAccepted o
      same_or o one is (inl e) = subst HasAccepted (sym e) (t.accepted one.was one.there (sym one.session ∙ is))
      same_or o one is (inr accepted) = accepted

      either : (o : Open) → o.session ≡ s → AfterDeed (w.replica name) (v.replica name) o → HasAccepted o
      either o is (inl one) = same_or o one is one.or_accepted
      either o is (inr (new, last)) = absurd (omega (arith, new, ap (λ (x : SessionValue). x.number) is, t.number))

  took_ever_since : (s : SessionValue) (deeds : List Deed) (u w : World) → RunsAlone hash_of name u deeds w → TookOne s (u.replica name)
      → TookOne s (w.replica name)
  took_ever_since s [] u w same t = subst (λ (x : World). TookOne s (x.replica name)) (sym same) t
  took_ever_since s (d ∷ deeds) u w (answer, v, befalls, rest) t = took_ever_since s deeds v w rest (took_next s u v d answer befalls t)

  taken_outcome : (answer : Answer) (outcome : Outcome) → answer ≡ Came outcome → (answer ≡ Came Sent) ⊎ (answer ≡ Came Done) → IsTakenOutcome outcome
  taken_outcome answer outcome is (inl e) = inl (came_one outcome Sent (sym is ∙ e))
  taken_outcome answer outcome is (inr e) = inr (came_one outcome Done (sym is ∙ e))

  takes_first : (w v : World) (s : SessionValue) (context : DotValue → Bool) (root : Option (List ℕ)) (of : Snapshot) (answer : Answer)
      → Befalls hash_of name w (Comes (Opening s context root) of) answer v → (answer ≡ Came Sent) ⊎ (answer ≡ Came Done)
      → TakesFirst (w.replica name) s (v.replica name).sessions
  takes_first w v s context root of answer befalls taken = by (arrived hash_of name w v (Opening s context root) of answer befalls)
    where
      by : Arrived hash_of name w (Opening s context root) of answer v → TakesFirst (w.replica name) s (v.replica name).sessions
      by d =
          let here : v.replica name ≡ d.new = ap (λ (x : World). x.replica name) d.after ∙ here_new name d.new _ in
          subst (λ (q : Replica). TakesFirst (w.replica name) s q.sessions) (sym here)
          (subst (Takes (w.replica name) (Opening s context root)) d.step (opening_takes hash_of d.own (w.replica name) (Opening s context root))
          (taken_outcome answer d.outcome d.answers taken))

  -- none takes another opening after a front on which it took one
  not_again : (deeds : List Deed) (s : SessionValue) (c c' : DotValue → Bool) (root root' : Option (List ℕ)) (a : TookOpening hash_of name deeds s c root)
      (b : TookOpening hash_of name deeds s c' root')
      → GoesOnWith (Comes (Opening s c root) a.of) a.front b.front → ⊥
  unfolding GoesOnWith
  not_again deeds s c c' root root' a b (more, longer) =
      let first = takes_first a.before a.after s c root a.of a.answer a.befell a.taken in
      let second = takes_first b.before b.after s c' root' b.of b.answer b.befell b.taken in
      let number : s.number ≤ (a.before.replica name).opened = subst (λ (x : SessionValue). x.number ≤ (a.before.replica name).opened) first.session
      (numbered a.front a.before a.runs first.was first.there) in
      let then : TookOne s (a.after.replica name) =
      record { number = omega (arith, number, deed_opens a.before a.after (Comes (Opening s c root) a.of) a.answer a.befell); accepted = first.accepted } in
      let rest = passed hash_of name a.front more (Comes (Opening s c root) a.of) a.before a.after b.before a.answer a.runs a.befell
      (subst (λ ds. RunsAlone hash_of name nothing ds b.before) longer b.runs) in
      let one = (took_ever_since s more a.after b.before rest then).accepted second.was second.there second.session in
      let both : None ≡ Some one.0 = sym second.none ∙ one.1 in
      absurd cc

  -- nor is it asked for again
  not_asked_again : (s : SessionValue) (front later : List Deed) (t w : World) → RunsAlone hash_of name nothing front t → s.number ≡ (t.replica name).opened + 1
      → s.number ≡ (w.replica name).opened + 1
      → GoesOnWith (Calls (Ask s.answerer)) front later → RunsAlone hash_of name nothing later w → ⊥
  unfolding GoesOnWith
  not_asked_again s front later t w runs first second (more, longer) all =
      let parts = runs_split hash_of name front (Calls (Ask s.answerer) ∷ more) nothing w (subst (λ ds. RunsAlone hash_of name nothing ds w) longer all) in
      step parts.0 (runs_one hash_of name front nothing parts.0 t parts.1 runs) parts.2
    where
      opened : (x v : World) (answer : Answer) → Befalls hash_of name x (Calls (Ask s.answerer)) answer v
          → (v.replica name).opened ≡ (x.replica name).opened + 1
      opened x v answer (new, out, call, after) =
          ap (λ (y : World). (y.replica name).opened) after ∙ ap (λ (q : Replica). q.opened) (here_new name new _)
          ∙ asked_here (x.replica name) new s.answerer answer out call

      step : (x : World) → x ≡ t → RunsAlone hash_of name x (Calls (Ask s.answerer) ∷ more) w → ⊥
      step x same (answer, v, befalls, rest) =
          let here : (x.replica name).opened ≡ (t.replica name).opened = ap (λ (y : World). (y.replica name).opened) same in
          omega (arith, first, second, here, opened x v answer befalls, runs_open more v w rest)

pub one_opening_alone : OneOpeningAlone
one_opening_alone hash_of name deeds s context context' root root' a b =
    step (fronts (Comes (Opening s context root) a.of) (Comes (Opening s context' root') b.of) a.front b.front a.later b.later (sym a.split ∙ b.split))
  where
    step : AreFronts (Comes (Opening s context root) a.of) a.front (Comes (Opening s context' root') b.of) b.front
        → (context ≡ context') × (root ≡ root') × (a.of ≡ b.of)
    step (inl (both, is)) = (cc, cc, cc)
    step (inr (inl longer)) = absurd (not_again hash_of name deeds s context context' root root' a b longer)
    step (inr (inr longer)) = absurd (not_again hash_of name deeds s context' context root' root b a longer)

pub one_ask_alone : OneAskAlone
one_ask_alone hash_of name deeds s own own' known known' a b =
    step (fronts (Calls (Ask s.answerer)) (Calls (Ask s.answerer)) a.front b.front a.later b.later (sym a.split ∙ b.split))
  where
    step : AreFronts (Calls (Ask s.answerer)) a.front (Calls (Ask s.answerer)) b.front → (own ≡ own') × (known ≡ known')
    step (inl (both, is)) =
        let same : a.before ≡ b.before = runs_one hash_of name b.front nothing a.before b.before
        (subst (λ ds. RunsAlone hash_of name nothing ds a.before) both a.runs) b.runs in (
          maps_one own own' (b.before.replica name).live (subst (λ (x : World). IsMapOf own (x.replica name).live) same a.own_then) b.own_then,
          a.known_then ∙ ap (λ (x : World). (x.replica name).live.has) same ∙ sym b.known_then,
        )
    step (inr (inl longer)) = absurd (not_asked_again hash_of name s a.front b.front a.before b.before a.runs a.numbered b.numbered longer b.runs)
    step (inr (inr longer)) = absurd (not_asked_again hash_of name s b.front a.front b.before a.before b.runs b.numbered a.numbered longer a.runs)

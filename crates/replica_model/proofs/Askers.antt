-- A kept snapshot is for the hello of its session, and a hello tells what its asker knew when it asked.
use Rattle.std.proofs.Common.{◌≡◌, ◌⊎◌, inl, inr, ℕ, zero, suc, ◌==◌, List, [], ◌∷◌, ◌++◌, map, Bool, true, false, Option, Some, None, cond, refl, sym, ap, ◌∙◌}
use Rattle.std.proofs.Common.{subst}
use Rattle.std.specs.Prelude.{Contains, slice_get}
use Rattle.dots.specs.Dot.{DotValue}
use Rattle.op_model.specs.Operation.{Operation}
use Rattle.op_model.proofs.Members.{nothing_in, at_head, in_tail, from_map}
use Rattle.wire_form.specs.Session.{SessionValue}
use Rattle.sync_model.specs.Differ.{Held}
use Rattle.replica_model.specs.Mail.{Mail, Delta, Hello, Ask}
use Rattle.replica_model.specs.Replica.{Replica, Open, Accepted, Kept, open_numbered, next_session}
use Rattle.replica_model.specs.Delivery.{Turn, asks_for, delivered}
use Rattle.replica_model.specs.Step.{Call, Put, Remove, RemoveField, Clear, Flush, Retry, Abandon, Restart, Answer, Abandons, IsCall, again, retried}
use Rattle.replica_model.specs.Step as call
use Rattle.replica_model.specs.World.{World, Event, Node, At, Deliver, Message, message_at, nothing, calls, takes, sent_as, goes, Happens, Runs}
use Rattle.replica_model.specs.Sessions.{IsAskOf}
use Rattle.replica_model.specs.Laws.{SnapshotsAreFor}
use Rattle.replica_model.proofs.Found.{in_one, in_keeping}
use Rattle.replica_model.proofs.Rows.{each_row}
use Rattle.replica_model.proofs.Carried.{at_either, by_name, same_replicas, same_messages}
use Rattle.replica_model.proofs.Leaving.{same_calls}
use Rattle.replica_model.proofs.Fronts.{by_events, delivery, same_after_calls, ask_more, asked_now, told, none_at}

-- a message that is there stays
pub stays_at : (ms more : List Message) (number : ℕ) (m : Message) → message_at ms number ≡ Some m → message_at (ms ++ more) number ≡ Some m
stays_at ms more zero m e = absurd cc
stays_at ms more (suc n) m e = by ms n e
  where
    by : (ms : List Message) (n : ℕ) → slice_get ms n ≡ Some m → slice_get (ms ++ more) n ≡ Some m
    by [] n e = absurd cc
    by (x ∷ ms) zero e = e
    by (x ∷ ms) (suc n) e = by ms n e

-- ---- which hellos are sent

-- no reply to a delivery is a hello
asks_no_hello : (u : SessionValue) (prefixes : List (List ℕ)) (x : Mail) → Contains (asks_for u prefixes) x → (s : SessionValue) (seen : DotValue → Bool)
    → x ≡ Hello s seen → ⊥
asks_no_hello u prefixes x h s seen e = let found = from_map (Ask u) prefixes x h in let same : Ask u found.0 ≡ Hello s seen = found.2 ∙ e in absurd cc

no_hello : (hash_of : List ℕ → ℕ) (own : Held) (r : Replica) (mail x : Mail) → Contains (delivered hash_of own r mail).replies x
    → (s : SessionValue) (seen : DotValue → Bool) → x ≡ Hello s seen → ⊥
no_hello hash_of own r mail = each_row hash_of own r (λ mail t. (x : Mail) → Contains t.replies x → (s : SessionValue) (seen : DotValue → Bool)
    → x ≡ Hello s seen → ⊥) (record {
      ignoring = λ mail other x h s seen e. nothing_in x h;
      mismatch = λ mail other x h s seen e. nothing_in x h;
      delta = λ d x h s seen e. nothing_in x h;
      told_again = λ t known k is x h s seen e. let same = sym (in_one _ x h) ∙ e in absurd cc;
      kept = λ t known here none x h s seen e. let same = sym (in_one _ x h) ∙ e in absurd cc;
      gone = λ t p x h s seen e. let same = sym (in_one _ x h) ∙ e in absurd cc;
      page = λ t p k page x h s seen e. let same = sym (in_one _ x h) ∙ e in absurd cc;
      opening_done = λ t c root o f there first took complete x h s seen e. nothing_in x h;
      opening_sent = λ t c root o f there first took x h s seen e. asks_no_hello o.session _ x h s seen e;
      page_done = λ t sent o a f there accepted took complete x h s seen e. nothing_in x h;
      page_sent = λ t sent o a f there accepted took x h s seen e. asks_no_hello o.session _ x h s seen e;
      ended = λ t o there x h s seen e. nothing_in x h;
    }) mail

-- a kept snapshot was kept, or is for the hello that came
kept_from : (hash_of : List ℕ → ℕ) (own : Held) (r : Replica) (mail : Mail) (k : Kept) → Contains (delivered hash_of own r mail).new.kept k → Contains r.kept k
    ⊎ (mail ≡ Hello k.session k.seen)
kept_from hash_of own r = each_row hash_of own r (λ mail t. (k : Kept) → Contains t.new.kept k → Contains r.kept k ⊎ (mail ≡ Hello k.session k.seen)) (record {
  ignoring = λ mail other k h. inl h;
  mismatch = λ mail other k h. inl h;
  delta = λ d k h. inl h;
  told_again = λ s seen j e k h. inl h;
  kept = λ s seen here none k h. either s seen k (in_keeping _ r.kept k h);
  gone = λ s p k h. inl h;
  page = λ s p j page k h. inl h;
  opening_done = λ s c root o f there first took complete k h. inl h;
  opening_sent = λ s c root o f there first took k h. inl h;
  page_done = λ s sent o a f there accepted took complete k h. inl h;
  page_sent = λ s sent o a f there accepted took k h. inl h;
  ended = λ s o there k h. inl h;
})
  where
    either : (s : SessionValue) (seen : DotValue → Bool) (k : Kept) → Contains r.kept k ⊎ (k ≡ Rattle.replica_model.proofs.Rows.snapshot own r s seen)
        → Contains r.kept k ⊎ (Hello s seen ≡ Hello k.session k.seen)
    either s seen k (inl h) = inl h
    either s seen k (inr e) = inr (ap (λ (j : Kept). Hello j.session j.seen) (sym e))

-- a call keeps no snapshot
abandon_keeps : (old new : Replica) (o : Option Open) (answer : Answer) → Abandons old o new answer → new.kept ≡ old.kept
abandon_keeps old new None answer (n, a) = ap (λ (r : Replica). r.kept) n
abandon_keeps old new (Some o) answer (n, a) = ap (λ (r : Replica). r.kept) n

-- each snapshot stays, or the replica restarts and keeps none
pub call_keeps : (old new : Replica) (c : Call) (answer : Answer) (out : List Mail) → IsCall old c new answer out → (new.kept ≡ old.kept)
    ⊎ ((c ≡ Restart) × (new.kept ≡ []))
call_keeps old new (Put place value) answer out (w, put, lt, n, a, o) = inl (ap (λ (r : Replica). r.kept) n)
call_keeps old new (Remove key) answer out (over, just, n, a, o) = inl (ap (λ (r : Replica). r.kept) n)
call_keeps old new (RemoveField place) answer out (over, just, n, a, o) = inl (ap (λ (r : Replica). r.kept) n)
call_keeps old new Clear answer out (over, just, n, a, o) = inl (ap (λ (r : Replica). r.kept) n)
call_keeps old new Flush answer out (a, inl (none, n, o)) = inl (ap (λ (r : Replica). r.kept) n)
call_keeps old new Flush answer out (a, inr (some, n, o)) = inl (ap (λ (r : Replica). r.kept) n)
call_keeps old new (call.Ask peer) answer out (own, is, few, left, n, a, o) = inl (ap (λ (r : Replica). r.kept) n)
call_keeps old new (Retry number) answer out (n, a, o) = inl (ap (λ (r : Replica). r.kept) n)
call_keeps old new (Abandon number) answer out (step, o) = inl (abandon_keeps old new (open_numbered old.sessions number) answer step)
call_keeps old new Restart answer out (n, a, o) = inr (refl, ap (λ (r : Replica). r.kept) n)

-- so a snapshot that is kept after a call was kept before it
pub call_kept : (old new : Replica) (c : Call) (answer : Answer) (out : List Mail) → IsCall old c new answer out → (k : Kept) → Contains new.kept k
    → Contains old.kept k
call_kept old new c answer out step k h = by (call_keeps old new c answer out step)
  where
    by : (new.kept ≡ old.kept) ⊎ ((c ≡ Restart) × (new.kept ≡ [])) → Contains old.kept k
    by (inl same) = subst (λ ks. Contains ks k) same h
    by (inr (is, none)) = nothing_in k (subst (λ ks. Contains ks k) none h)

found_numbered : (os : List Open) (number : ℕ) (o : Open) → open_numbered os number ≡ Some o → Contains os o
found_numbered [] number o e = absurd cc
found_numbered (x ∷ os) number o e = step (x.session.number == number) e (found_numbered os number o)
  where
    step : (b : Bool) → cond b (Some x) (open_numbered os number) ≡ Some o → (open_numbered os number ≡ Some o → Contains os o) → Contains (x ∷ os) o
    step true here rest = let one : x ≡ o = cc in subst (λ y. Contains (x ∷ os) y) one (at_head x os)
    step false there rest = in_tail x os o (rest there)

module _ (hash_of : List ℕ → ℕ) where
  -- a hello of an ask
  abbrev Hellos : List Event → Mail → Type 0
  Hellos events x = (s : SessionValue) (seen : DotValue → Bool) → x ≡ Hello s seen → (own : Held) × IsAskOf hash_of events s own seen

  asked_hello : (events : List Event) (s : SessionValue) (own : Held) (seen : DotValue → Bool) → IsAskOf hash_of events s own seen → (x : Mail)
      → x ≡ Hello s seen → Hellos events x
  asked_hello events s own seen asked x is t known e =
      let same : Hello s seen ≡ Hello t known = sym is ∙ e in
      let session : s ≡ t = cc in
      let dots : seen ≡ known = cc in
      (own, subst (λ u. IsAskOf hash_of events u own known) session (subst (IsAskOf hash_of events s own) dots asked))

  again_hellos : (events : List Event) (o : Open) → IsAskOf hash_of events o.session o.own o.seen → (a : Option Accepted) (x : Mail) → Contains (again o a) x
      → Hellos events x
  again_hellos events o asked None x h s seen e = asked_hello events o.session o.own o.seen asked x (in_one (Hello o.session o.seen) x h) s seen e
  again_hellos events o asked (Some a) x h s seen e = absurd (asks_no_hello o.session _ x h s seen e)

  retry_hellos : (events : List Event) (r : Replica) (o : Option Open) → ((p : Open) → o ≡ Some p → IsAskOf hash_of events p.session p.own p.seen) → (x : Mail)
      → Contains (retried r o).replies x → Hellos events x
  retry_hellos events r None asked x h s seen e = nothing_in x h
  retry_hellos events r (Some o) asked x h s seen e = again_hellos events o (asked o refl) o.accepted x h s seen e

  nothing_told : (events : List Event) (out : List Mail) → out ≡ [] → (x : Mail) → Contains out x → Hellos events x
  nothing_told events out e x h s seen is = nothing_in x (subst (λ ms. Contains ms x) e h)

  call_hellos : (events : List Event) (w : World) (name : ℕ) → Runs hash_of nothing events w → (c : Call) (new : Replica) (answer : Answer) (out : List Mail)
      → IsCall (w.replica name) c new answer out
      → (x : Mail) → Contains out x → Hellos (events ++ At name c ∷ []) x
  call_hellos events w name runs (Put place value) new answer out (v, put, lt, n, a, o) x h s seen e = nothing_told _ out o x h s seen e
  call_hellos events w name runs (Remove key) new answer out (over, just, n, a, o) x h s seen e = nothing_told _ out o x h s seen e
  call_hellos events w name runs (RemoveField place) new answer out (over, just, n, a, o) x h s seen e = nothing_told _ out o x h s seen e
  call_hellos events w name runs Clear new answer out (over, just, n, a, o) x h s seen e = nothing_told _ out o x h s seen e
  call_hellos events w name runs Flush new answer out (a, inl (none, n, o)) x h s seen e = nothing_told _ out o x h s seen e
  call_hellos events w name runs Flush new answer out (a, inr (some, n, o)) x h s seen e =
      let same : Delta (w.replica name).group ≡ Hello s seen = sym (in_one _ x (subst (λ ms. Contains ms x) o h)) ∙ e in absurd cc
  call_hellos events w name runs (call.Ask peer) new answer out (own, is, few, left, n, a, o) x h s seen e =
      asked_hello (events ++ At name (call.Ask peer) ∷ []) (next_session (w.replica name) peer) own (w.replica name).live.has
      (asked_now hash_of events w name peer own runs ((told hash_of events w runs).named name) is) x (in_one _ x (subst (λ ms. Contains ms x) o h)) s seen e
  call_hellos events w name runs (Retry number) new answer out (n, a, o) x h s seen e =
      retry_hellos (events ++ At name (Retry number) ∷ []) (w.replica name) (open_numbered (w.replica name).sessions number)
      (λ p at. ask_more hash_of events (At name (Retry number)) p.session p.own p.seen
      ((told hash_of events w runs).sessions name p (found_numbered (w.replica name).sessions number p at)).asked.0)
      x (subst (λ ms. Contains ms x) o h) s seen e
  call_hellos events w name runs (Abandon number) new answer out (step, o) x h s seen e = nothing_told _ out o x h s seen e
  call_hellos events w name runs Restart new answer out (n, a, o) x h s seen e = nothing_told _ out o x h s seen e

  -- ---- worlds

  abbrev HeardOf : World → Kept → Type 0
  HeardOf w k = (number : ℕ) × (m : Message) × (message_at w.messages number ≡ Some m) × (m.mail ≡ Hello k.session k.seen)

  record Heard (events : List Event) (w : World) : Type 0 where
    kept : (name : ℕ) (k : Kept) → Contains (w.replica name).kept k → HeardOf w k
    hellos : (number : ℕ) (m : Message) → message_at w.messages number ≡ Some m → Hellos events m.mail

  -- messages that were added, of these mails
  heard_goes : (events : List Event) (e : Event) (w u : World) (name : ℕ) (new : Replica) (out : List Mail) (group : List Operation) → u.messages ≡ w.messages
      → u.replica ≡ w.replica → Heard events w
      → ((k : Kept) → Contains new.kept k → HeardOf w k) → ((x : Mail) → Contains out x → Hellos (events ++ e ∷ []) x)
      → Heard (events ++ e ∷ []) (goes name new out group u)
  heard_goes events e w u name new out group same same_rs heard here sent = record {
    kept = λ n k h. further k
        (by_name (λ j r. Contains r.kept k → HeardOf w k) name new w.replica (λ i. here k i) (λ j apart i. heard.kept j k i) n
        (subst (λ f. Contains (cond (n == name) new (f n)).kept k) same_rs h));
    hellos = λ number m there. either m (at_either u.messages (map (sent_as group u.kept new.kept) out) number m there)
        (λ i. heard.hellos number m (subst (λ ms. message_at ms number ≡ Some m) same i));
  }
    where
      further : (k : Kept) → HeardOf w k → HeardOf (goes name new out group u) k
      further k (number, m, there, is) =
          (number, m, stays_at u.messages (map (sent_as group u.kept new.kept) out) number m (subst (λ ms. message_at ms number ≡ Some m) (sym same) there), is)

      either : (m : Message) → {A : Type 0} → A ⊎ Contains (map (sent_as group u.kept new.kept) out) m → (A → Hellos events m.mail)
          → Hellos (events ++ e ∷ []) m.mail
      either m (inl i) old s seen is = let a = old i s seen is in (a.0, ask_more hash_of events e s a.0 seen a.1)
      either m (inr i) old s seen is =
          let found = from_map (sent_as group u.kept new.kept) out m i in
          sent found.0 found.1 s seen (ap (λ (y : Message). y.mail) found.2 ∙ is)

  heard_next : (events : List Event) (w v : World) (e : Event) (answer : Answer) → Runs hash_of nothing events w → Heard events w → Happens hash_of w e answer v
      → Heard (events ++ e ∷ []) v
  heard_next events w v (Node name) answer runs heard (new, a, e) =
      subst (Heard (events ++ Node name ∷ [])) (sym e) (record {
        kept = heard.kept;
        hellos = λ number m there s seen is. let b = heard.hellos number m there s seen is in (b.0, ask_more hash_of events (Node name) s b.0 seen b.1);
      })
  heard_next events w v (At name c) answer runs heard (is, peer, (new, out, step, e)) =
      subst (Heard (events ++ At name c ∷ [])) (sym e)
      (heard_goes events (At name c) w (calls name c w) name new out (w.outgoing name) (same_calls w name c).0 (same_after_calls hash_of w name c) heard
      (λ k h. heard.kept name k (call_kept (w.replica name) new c answer out step k h))
      (call_hellos events w name runs c new answer out step))
  heard_next events w v (Deliver number name) answer runs heard happens =
      let d = delivery hash_of w v number name answer happens in
      let old = w.replica name in
      subst (Heard (events ++ Deliver number name ∷ [])) (sym d.after)
      (heard_goes events (Deliver number name) w (takes name old d.message.mail d.message.of d.outcome w) name d.new d.out []
      (same_messages w name old d.message.mail d.message.of d.outcome)
      (same_replicas w name old d.message.mail d.message.of d.outcome) heard
      (λ k h. by_case k d.message d.there (kept_from hash_of d.own old d.message.mail k (subst (λ (t : Turn). Contains t.new.kept k) (sym d.step) h)))
      (λ x h s seen e. absurd (no_hello hash_of d.own old d.message.mail x (subst (λ (t : Turn). Contains t.replies x) (sym d.step) h) s seen e)))
    where
      by_case : (k : Kept) (m : Message) → message_at w.messages number ≡ Some m → Contains (w.replica name).kept k ⊎ (m.mail ≡ Hello k.session k.seen)
          → HeardOf w k
      by_case k m there (inl h) = heard.kept name k h
      by_case k m there (inr e) = (number, m, there, e)

  heard_all : (events : List Event) (w : World) → Runs hash_of nothing events w → Heard events w
  heard_all = by_events hash_of Heard (record { kept = λ n k h. nothing_in k h; hellos = λ number m there. absurd (none_at number m there) }) heard_next

pub snapshots_for : SnapshotsAreFor
snapshots_for hash_of events w runs name k h =
    let heard = heard_all hash_of events w runs in
    let at = heard.kept name k h in
    let asked = heard.hellos at.0 at.1 at.2 k.session k.seen at.3 in
    let tie = (told hash_of events w runs).kept name k h in
    record {
      answerer = tie.answerer;
      number = at.0;
      message = at.1;
      there = at.2;
      hello = at.3;
      own = asked.0;
      asked = asked.1;
      taken = tie.snap;
    }

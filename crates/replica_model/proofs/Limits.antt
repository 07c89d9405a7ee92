-- A replica stays within its limits.
use Rattle.std.proofs.Common.{◌≡◌, inl, inr, ℕ, ◌+◌, ◌==◌, ◌<◌, ◌≤◌, ◌^◌, List, [], ◌∷◌, ◌++◌, length, Bool, true, false, Option, Some, None, cond, not, refl}
use Rattle.std.proofs.Common.{sym, ap, subst, arith, length-append}
use Rattle.std.specs.Prelude.{nat_lt}
use Rattle.std.proofs.lemmas.Bool.{ltb-true}
use Rattle.std.proofs.lemmas.List.{length-map}
use Rattle.sync_model.specs.Differ.{Held}
use Rattle.replica_model.specs.Mail.{Mail}
use Rattle.replica_model.specs.Replica.{Replica, Open, Kept, open_numbered, advanced, without_session, LIMIT, all_but_first, keeping}
use Rattle.wire_form.specs.Session.{same_session}
use Rattle.replica_model.specs.Delivery.{Turn, delivered}
use Rattle.replica_model.specs.Step.{Call, Put, Remove, RemoveField, Clear, Flush, Ask, Retry, Abandon, Restart, Answer, Abandons, IsCall}
use Rattle.replica_model.specs.World.{World, Event, Node, At, Deliver, nothing, Happens, Runs}
use Rattle.replica_model.specs.Laws.{AreNumbered, IsWithinLimits, StayWithinLimits}
use Rattle.replica_model.proofs.Found.{same_is_one}
use Rattle.replica_model.proofs.Rows.{each_row}
use Rattle.replica_model.proofs.Carried.{by_name, same_replicas}
use Rattle.replica_model.proofs.Fronts.{by_events, delivery, same_after_calls}

-- ---- numbers

lower : (low high : ℕ) (os : List Open) (last : ℕ) → low ≤ high → AreNumbered high os last → AreNumbered low os last
lower low high [] last le n = omega (arith, le, n)
lower low high (o ∷ os) last le n = let first = n.0 in (omega (arith, le, first), n.1)

numbered_without : (s : Rattle.wire_form.specs.Session.SessionValue) (low : ℕ) (os : List Open) (last : ℕ) → AreNumbered low os last
    → AreNumbered low (without_session s os) last
numbered_without s low [] last n = n
numbered_without s low (o ∷ os) last n = step (not (same_session o.session s)) (numbered_without s o.session.number os last n.1)
  where
    step : (b : Bool) → AreNumbered o.session.number (without_session s os) last
        → AreNumbered low (cond b (o ∷ without_session s os) (without_session s os)) last
    step true rest = (n.0, rest)
    step false rest = let first = n.0 in lower low o.session.number (without_session s os) last (omega (arith, first)) rest

numbered_advanced : (next : Open) (low : ℕ) (os : List Open) (last : ℕ) → AreNumbered low os last → AreNumbered low (advanced next os) last
numbered_advanced next low [] last n = n
numbered_advanced next low (o ∷ os) last n = step (same_session o.session next.session) refl (numbered_advanced next o.session.number os last n.1)
  where
    step : (b : Bool) → same_session o.session next.session ≡ b → AreNumbered o.session.number (advanced next os) last
        → AreNumbered low (cond b next o ∷ advanced next os) last
    step true same rest =
        let one : o.session.number ≡ next.session.number = ap (λ (s : Rattle.wire_form.specs.Session.SessionValue). s.number)
        (same_is_one o.session next.session same) in
        (subst (λ x. low < x) one n.0, subst (λ x. AreNumbered x (advanced next os) last) one rest)
    step false apart rest = (n.0, rest)

numbered_opened : (low : ℕ) (os : List Open) (last : ℕ) (next : Open) → next.session.number ≡ last + 1 → AreNumbered low os last
    → AreNumbered low (os ++ next ∷ []) (last + 1)
numbered_opened low [] last next e n = (omega (arith, e, n), omega (arith, e))
numbered_opened low (o ∷ os) last next e n = (n.0, numbered_opened o.session.number os last next e n.1)

-- ---- lengths

fewer : (s : Rattle.wire_form.specs.Session.SessionValue) (os : List Open) → length (without_session s os) ≤ length os
fewer s [] = omega arith
fewer s (o ∷ os) = step (not (same_session o.session s)) (fewer s os)
  where
    step : (b : Bool) → length (without_session s os) ≤ length os → length (cond b (o ∷ without_session s os) (without_session s os)) ≤ length (o ∷ os)
    step true rest = omega (arith, rest)
    step false rest = omega (arith, rest)

one_less : (ks : List Kept) → length ks ≤ LIMIT → length (all_but_first ks) < LIMIT
one_less [] le = omega arith
one_less (k ∷ ks) le = omega (arith, le)

few_kept : (k : Kept) (ks : List Kept) → length ks ≤ LIMIT → length (keeping k ks) ≤ LIMIT
few_kept k ks le = step (nat_lt (length ks) LIMIT) refl
  where
    step : (b : Bool) → nat_lt (length ks) LIMIT ≡ b → length (cond b ks (all_but_first ks) ++ k ∷ []) ≤ LIMIT
    step true e = let less = ltb-true (length ks) LIMIT e in omega (arith, less, length-append ks (k ∷ []))
    step false e = let less = one_less ks le in omega (arith, less, length-append (all_but_first ks) (k ∷ []))

-- ---- steps

closing : (r : Replica) (s : Rattle.wire_form.specs.Session.SessionValue) → IsWithinLimits r → length (without_session s r.sessions) ≤ LIMIT
closing r s l = let few = fewer s r.sessions in let before = l.sessions in omega (arith, few, before)

same_limits : (old new : Replica) → new.sessions ≡ old.sessions → new.kept ≡ old.kept → new.opened ≡ old.opened → IsWithinLimits old → IsWithinLimits new
same_limits old new s k o l = record {
  sessions = subst (λ x. length x ≤ LIMIT) (sym s) l.sessions;
  kept = subst (λ x. length x ≤ LIMIT) (sym k) l.kept;
  numbered = subst (λ x. AreNumbered 0 x new.opened) (sym s) (subst (AreNumbered 0 old.sessions) (sym o) l.numbered);
  opened = subst (λ x. x < 2 ^ 64) (sym o) l.opened;
}

pub delivery_limits : (hash_of : List ℕ → ℕ) (own : Held) (r : Replica) → IsWithinLimits r → (mail : Mail) → IsWithinLimits (delivered hash_of own r mail).new
delivery_limits hash_of own r l = each_row hash_of own r (λ mail t. IsWithinLimits t.new) (record {
  ignoring = λ mail other. l;
  mismatch = λ mail other. l;
  delta = λ d. record { sessions = l.sessions; kept = l.kept; numbered = l.numbered; opened = l.opened };
  told_again = λ s seen k e. l;
  kept = λ s seen here none. record { sessions = l.sessions; kept = few_kept _ r.kept l.kept; numbered = l.numbered; opened = l.opened };
  gone = λ s p. l;
  page = λ s p k page. l;
  opening_done = λ s c root o f there first took complete. record {
    sessions = closing r o.session l;
    kept = l.kept;
    numbered = numbered_without o.session 0 r.sessions r.opened l.numbered;
    opened = l.opened;
  };
  opening_sent = λ s c root o f there first took. record {
    sessions = subst (λ n. n ≤ LIMIT) (sym (length-map r.sessions _)) l.sessions;
    kept = l.kept;
    numbered = numbered_advanced _ 0 r.sessions r.opened l.numbered;
    opened = l.opened;
  };
  page_done = λ s sent o a f there accepted took complete. record {
    sessions = closing r o.session l;
    kept = l.kept;
    numbered = numbered_without o.session 0 r.sessions r.opened l.numbered;
    opened = l.opened;
  };
  page_sent = λ s sent o a f there accepted took. record {
    sessions = subst (λ n. n ≤ LIMIT) (sym (length-map r.sessions _)) l.sessions;
    kept = l.kept;
    numbered = numbered_advanced _ 0 r.sessions r.opened l.numbered;
    opened = l.opened;
  };
  ended = λ s o there. record {
    sessions = closing r o.session l;
    kept = l.kept;
    numbered = numbered_without o.session 0 r.sessions r.opened l.numbered;
    opened = l.opened;
  };
})

to : (new r : Replica) → new ≡ r → IsWithinLimits r → IsWithinLimits new
to new r e l = subst IsWithinLimits (sym e) l

abandon_limits : (r new : Replica) (o : Option Open) (answer : Answer) → IsWithinLimits r → Abandons r o new answer → IsWithinLimits new
abandon_limits r new None answer l (n, a) = to new r n l
abandon_limits r new (Some o) answer l (n, a) =
    to new _ n (record {
      sessions = closing r o.session l;
      kept = l.kept;
      numbered = numbered_without o.session 0 r.sessions r.opened l.numbered;
      opened = l.opened;
    })

same_three : (r new : Replica) → IsWithinLimits r → (e : Replica) → new ≡ e → e.sessions ≡ r.sessions → e.kept ≡ r.kept → e.opened ≡ r.opened
    → IsWithinLimits new
same_three r new l e n s k o = to new e n (same_limits r e s k o l)

pub call_limits : (r new : Replica) (c : Call) (answer : Answer) (out : List Mail) → IsWithinLimits r → IsCall r c new answer out → IsWithinLimits new
call_limits r new (Put place value) answer out l (w, put, lt, n, a, o) = same_three r new l _ n refl refl refl
call_limits r new (Remove key) answer out l (over, just, n, a, o) = same_three r new l _ n refl refl refl
call_limits r new (RemoveField place) answer out l (over, just, n, a, o) = same_three r new l _ n refl refl refl
call_limits r new Clear answer out l (over, just, n, a, o) = same_three r new l _ n refl refl refl
call_limits r new Flush answer out l (a, inl (none, n, o)) = to new r n l
call_limits r new Flush answer out l (a, inr (some, n, o)) = same_three r new l _ n refl refl refl
call_limits r new (Ask peer) answer out l (own, is, few, left, n, a, o) =
    to new _ n (record {
      sessions = let more = length-append r.sessions (Rattle.replica_model.proofs.Calls.asking r peer own ∷ []) in omega (arith, few, more);
      kept = l.kept;
      numbered = numbered_opened 0 r.sessions r.opened (Rattle.replica_model.proofs.Calls.asking r peer own) refl l.numbered;
      opened = left;
    })
call_limits r new (Retry number) answer out l (n, a, o) = to new r n l
call_limits r new (Abandon number) answer out l (step, o) = abandon_limits r new (open_numbered r.sessions number) answer l step
call_limits r new Restart answer out l (n, a, o) = to new _ n (record { sessions = omega arith; kept = omega arith; numbered = omega arith; opened = l.opened })

-- ---- worlds

abbrev AllWithin : List Event → World → Type 0
AllWithin events w = (name : ℕ) → IsWithinLimits (w.replica name)

limits_next : (hash_of : List ℕ → ℕ) (events : List Event) (w v : World) (e : Event) (answer : Answer) → Runs hash_of nothing events w → AllWithin events w
    → Happens hash_of w e answer v → AllWithin (events ++ e ∷ []) v
limits_next hash_of events w v (Node name) answer runs all (new, a, e) n = subst (λ (x : World). IsWithinLimits (x.replica n)) (sym e) (all n)
limits_next hash_of events w v (At name c) answer runs all (there, peer, (new, out, step, e)) n =
    subst (λ (x : World). IsWithinLimits (x.replica n)) (sym e)
    (subst (λ f. IsWithinLimits (cond (n == name) new (f n))) (sym (same_after_calls hash_of w name c))
    (by_name (λ k r. IsWithinLimits r) name new w.replica (call_limits (w.replica name) new c answer out (all name) step) (λ k apart. all k) n))
limits_next hash_of events w v (Deliver number name) answer runs all happens n =
    let d = delivery hash_of w v number name answer happens in
    subst (λ (x : World). IsWithinLimits (x.replica n)) (sym d.after)
    (subst (λ f. IsWithinLimits (cond (n == name) d.new (f n))) (sym (same_replicas w name (w.replica name) d.message.mail d.message.of d.outcome))
    (by_name (λ k r. IsWithinLimits r) name d.new w.replica
    (subst (λ (t : Turn). IsWithinLimits t.new) d.step (delivery_limits hash_of d.own (w.replica name) (all name) d.message.mail)) (λ k apart. all k) n))

pub limits : StayWithinLimits
limits hash_of = by_events hash_of AllWithin (λ n. record { sessions = omega arith; kept = omega arith; numbered = omega arith; opened = omega arith })
    (limits_next hash_of)

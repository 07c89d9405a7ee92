-- A session is asked for once: its number is past those of all sessions that its asker opened before.
use Rattle.std.proofs.Common.{◌≡◌, ◌⊎◌, inl, inr, ℕ, ◌+◌, ◌≤◌, ◌==◌, List, [], ◌∷◌, ◌++◌, Bool, Option, Some, None, cond, refl, sym, ap, ◌∙◌, subst, arith}
use Rattle.std.proofs.Common.{eq-eqb}
use Rattle.dots.specs.Dot.{DotValue}
use Rattle.prefix_digest.specs.MapOf.{IsMapOf}
use Rattle.prefix_digest.proofs.MapsOf.{maps_one}
use Rattle.wire_form.specs.Session.{SessionValue}
use Rattle.sync_model.specs.Differ.{Held}
use Rattle.replica_model.specs.Mail.{Mail}
use Rattle.replica_model.specs.Replica.{Replica, Open, open_numbered}
use Rattle.replica_model.specs.Delivery.{Turn, delivered}
use Rattle.replica_model.specs.Step.{Call, Put, Remove, RemoveField, Clear, Flush, Ask, Retry, Abandon, Restart, Answer, Abandons, IsCall}
use Rattle.replica_model.specs.World.{World, Event, Node, At, Deliver, nothing, Happens, Runs}
use Rattle.replica_model.specs.Laws.{AsksAreOne, SnapshotsKnowWhatWasAsked}
use Rattle.replica_model.specs.Sessions.{IsAskOf}
use Rattle.replica_model.proofs.Unchanged.{unchanged}
use Rattle.replica_model.proofs.Carried.{by_name, same_replicas}
use Rattle.replica_model.proofs.Deciding.{worlds_one}
use Rattle.replica_model.proofs.Fronts.{same_after_calls, delivery, told}
use Rattle.replica_model.proofs.Askers.{snapshots_for}

-- a delivery opens no session, and a call one at most
pub delivery_opens : (hash_of : List ℕ → ℕ) (own : Held) (r : Replica) (mail : Mail) → r.opened ≤ (delivered hash_of own r mail).new.opened
delivery_opens hash_of own r mail = let same = (unchanged hash_of own r mail).2 in omega (arith, same)

as_many : (old new changed : Replica) → new ≡ changed → old.opened ≤ changed.opened → old.opened ≤ new.opened
as_many old new changed is few = subst (λ (r : Replica). old.opened ≤ r.opened) (sym is) few

abandon_opens : (old new : Replica) (o : Option Open) (answer : Answer) → Abandons old o new answer → old.opened ≤ new.opened
abandon_opens old new None answer (n, a) = as_many old new old n (omega arith)
abandon_opens old new (Some o) answer (n, a) = as_many old new _ n (omega arith)

pub call_opens : (old new : Replica) (c : Call) (answer : Answer) (out : List Mail) → IsCall old c new answer out → old.opened ≤ new.opened
call_opens old new (Put place value) answer out (x, put, few, n, a, o) = as_many old new _ n (omega arith)
call_opens old new (Remove key) answer out (over, just, n, counts, o) = as_many old new _ n (omega arith)
call_opens old new (RemoveField place) answer out (over, just, n, counts, o) = as_many old new _ n (omega arith)
call_opens old new Clear answer out (over, just, n, counts, o) = as_many old new _ n (omega arith)
call_opens old new Flush answer out (a, inl (none, n, o)) = as_many old new old n (omega arith)
call_opens old new Flush answer out (a, inr (some, n, o)) = as_many old new _ n (omega arith)
call_opens old new (Ask peer) answer out (own, is, few, left, n, a, o) = as_many old new _ n (omega arith)
call_opens old new (Retry number) answer out (n, a, o) = as_many old new old n (omega arith)
call_opens old new (Abandon number) answer out (abandons, o) = abandon_opens old new (open_numbered old.sessions number) answer abandons
call_opens old new Restart answer out (n, a, o) = as_many old new _ n (omega arith)

-- so no event takes a number back
pub event_opens : (hash_of : List ℕ → ℕ) (w v : World) (e : Event) (answer : Answer) → Happens hash_of w e answer v → (n : ℕ)
    → (w.replica n).opened ≤ (v.replica n).opened
event_opens hash_of w v (Node name) answer (absent, a, after) n = subst (λ (x : World). (w.replica n).opened ≤ (x.replica n).opened) (sym after) (omega arith)
event_opens hash_of w v (At name c) answer (there, peer, (new, out, step, after)) n =
    subst (λ (x : World). (w.replica n).opened ≤ (x.replica n).opened) (sym after)
    (subst (λ f. (w.replica n).opened ≤ (cond (n == name) new (f n)).opened) (sym (same_after_calls hash_of w name c))
    (by_name (λ k (r : Replica). (w.replica k).opened ≤ r.opened) name new w.replica (call_opens (w.replica name) new c answer out step)
    (λ k apart. omega arith) n))
event_opens hash_of w v (Deliver number name) answer happens n =
    let d = delivery hash_of w v number name answer happens in
    let old = w.replica name in
    let few : old.opened ≤ d.new.opened = subst (λ (t : Turn). old.opened ≤ t.new.opened) d.step (delivery_opens hash_of d.own old d.message.mail) in
    subst (λ (x : World). (w.replica n).opened ≤ (x.replica n).opened) (sym d.after)
    (subst (λ f. (w.replica n).opened ≤ (cond (n == name) d.new (f n)).opened) (sym (same_replicas w name old d.message.mail d.message.of d.outcome))
    (by_name (λ k (r : Replica). (w.replica k).opened ≤ r.opened) name d.new w.replica few (λ k apart. omega arith) n))

runs_open : (hash_of : List ℕ → ℕ) (events : List Event) (u w : World) → Runs hash_of u events w → (n : ℕ) → (u.replica n).opened ≤ (w.replica n).opened
runs_open hash_of [] u w same n = subst (λ (x : World). (u.replica n).opened ≤ (x.replica n).opened) (sym same) (omega arith)
runs_open hash_of (e ∷ events) u w (answer, v, happens, rest) n = omega (arith, event_opens hash_of u v e answer happens n, runs_open hash_of events v w rest n)

-- ---- two fronts of one list, each before one event

runs_split : (hash_of : List ℕ → ℕ) (front more : List Event) (u w : World) → Runs hash_of u (front ++ more) w → (t : World) × Runs hash_of u front t
    × Runs hash_of t more w
runs_split hash_of [] more u w runs = (u, refl, runs)
runs_split hash_of (e ∷ front) more u w (answer, v, happens, rest) =
    let later = runs_split hash_of front more v w rest in
    (later.0, (answer, v, happens, later.1), later.2)

-- the first front goes on with this event to the second
GoesOnWith : Event → List Event → List Event → Type 0
GoesOnWith e xs ys = (more : List Event) × (ys ≡ xs ++ e ∷ more)

abbrev AreFronts : Event → List Event → List Event → Type 0
AreFronts e xs ys = (xs ≡ ys) ⊎ (GoesOnWith e xs ys ⊎ GoesOnWith e ys xs)

first_of : Event → List Event → Event
first_of d [] = d
first_of d (x ∷ xs) = x

rest_of : List Event → List Event
rest_of [] = []
rest_of (x ∷ xs) = xs

fronts : (e : Event) (xs ys us vs : List Event) → xs ++ e ∷ us ≡ ys ++ e ∷ vs → AreFronts e xs ys
unfolding GoesOnWith first_of rest_of
fronts e [] [] us vs same = inl refl
fronts e [] (y ∷ ys) us vs same = inr (inl (ys, ap (λ d. d ∷ ys) (sym (ap (first_of e) same))))
fronts e (x ∷ xs) [] us vs same = inr (inr (xs, ap (λ d. d ∷ xs) (ap (first_of e) same)))
fronts e (x ∷ xs) (y ∷ ys) us vs same = step (ap (first_of e) same) (fronts e xs ys us vs (ap rest_of same))
  where
    step : x ≡ y → AreFronts e xs ys → AreFronts e (x ∷ xs) (y ∷ ys)
    step one (inl both) = inl ((λ i. one i ∷ xs) ∙ ap (λ zs. y ∷ zs) both)
    step one (inr (inl (more, longer))) = inr (inl (more, (λ i. sym one i ∷ ys) ∙ ap (λ zs. x ∷ zs) longer))
    step one (inr (inr (more, longer))) = inr (inr (more, (λ i. one i ∷ xs) ∙ ap (λ zs. y ∷ zs) longer))

module _ (hash_of : List ℕ → ℕ) (s : SessionValue) where
  asked_here : (t v : World) (answer : Answer) → Happens hash_of t (At s.asker (Ask s.answerer)) answer v
      → (v.replica s.asker).opened ≡ (t.replica s.asker).opened + 1
  asked_here t v answer (there, peer, (new, out, (own, is, few, left, n, a, o), after)) =
      ap (λ (x : World). (x.replica s.asker).opened) after ∙ ap (λ b. (cond b new (t.replica s.asker)).opened) (eq-eqb s.asker s.asker refl)
      ∙ ap (λ (r : Replica). r.opened) n

  -- no front goes on to another before which the session has the same number
  not_again : (front later : List Event) (t w : World) → Runs hash_of nothing front t → s.number ≡ (t.replica s.asker).opened + 1
      → s.number ≡ (w.replica s.asker).opened + 1
      → GoesOnWith (At s.asker (Ask s.answerer)) front later → Runs hash_of nothing later w → ⊥
  unfolding GoesOnWith
  not_again front later t w runs first second (more, longer) all =
      let parts = runs_split hash_of front (At s.asker (Ask s.answerer) ∷ more) nothing w (subst (λ xs. Runs hash_of nothing xs w) longer all) in
      let same : parts.0 ≡ t = worlds_one hash_of front parts.0 t parts.1 runs in
      step parts.0 same parts.2
    where
      step : (x : World) → x ≡ t → Runs hash_of x (At s.asker (Ask s.answerer) ∷ more) w → ⊥
      step x same (answer, v, happens, rest) =
          let here : (x.replica s.asker).opened ≡ (t.replica s.asker).opened = ap (λ (y : World). (y.replica s.asker).opened) same in
          omega (arith, first, second, here, asked_here x v answer happens, runs_open hash_of more v w rest s.asker)

  ask_one : (events : List Event) (own own' : Held) (known known' : DotValue → Bool) → (a : IsAskOf hash_of events s own known)
      → (b : IsAskOf hash_of events s own' known')
      → (own ≡ own') × (known ≡ known')
  ask_one events own own' known known' a b = step (fronts (At s.asker (Ask s.answerer)) a.front b.front a.later b.later (sym a.split ∙ b.split))
    where
      step : AreFronts (At s.asker (Ask s.answerer)) a.front b.front → (own ≡ own') × (known ≡ known')
      step (inl both) =
          let same : a.before ≡ b.before = worlds_one hash_of b.front a.before b.before (subst (λ xs. Runs hash_of nothing xs a.before) both a.runs) b.runs in (
            maps_one own own' (b.before.replica s.asker).live (subst (λ (x : World). IsMapOf own (x.replica s.asker).live) same a.own_then) b.own_then,
            a.known_then ∙ ap (λ (x : World). (x.replica s.asker).live.has) same ∙ sym b.known_then,
          )
      step (inr (inl longer)) = absurd (not_again a.front b.front a.before b.before a.runs a.numbered b.numbered longer b.runs)
      step (inr (inr longer)) = absurd (not_again b.front a.front b.before a.before b.runs b.numbered a.numbered longer a.runs)

pub asks_one : AsksAreOne
asks_one hash_of events s own own' known known' a b = ask_one hash_of s events own own' known known' a b

pub snapshots_know : SnapshotsKnowWhatWasAsked
snapshots_know hash_of events w runs asker answerer o k there kept same =
    let mine = ((told hash_of events w runs).sessions asker o there).asked.0 in
    let theirs = snapshots_for hash_of events w runs answerer k kept in
    (asks_one hash_of events o.session o.own theirs.own o.seen k.seen mine (subst (λ s. IsAskOf hash_of events s theirs.own k.seen) same theirs.asked)).1

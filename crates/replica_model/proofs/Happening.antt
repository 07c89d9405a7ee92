-- Each event happens, or is refused, in every world that a list of events leads to: each live state is finite there, whatever clashed.
use Rattle.std.proofs.Common.{◌≡◌, ◌⊎◌, inl, inr, ℕ, ◌+◌, ◌<◌, ◌≤◌, ◌^◌, List, [], ◌∷◌, ◌++◌, length, Bool, true, false, Option, Some, None, cond, refl, sym}
use Rattle.std.proofs.Common.{ap, ◌∙◌, ◌||◌}
use Rattle.std.specs.Prelude.{◌↔◌, IsTrue, IsSome}
use Rattle.std.specs.List.{AllByRecursion, IsDistinct}
use Rattle.std.proofs.lemmas.Bool.{false≢true, or_left, cases_lt}
use Rattle.dots.specs.declared.dot.Dot.{Dot}
use Rattle.dots.specs.declared.refusal.Refusal.{Refusal}
use Rattle.dots.specs.declared.refusal.Refusal.TheVariants.{NameTaken, UnknownReplica, UnknownMessage, NumbersSpent, SessionsFull}
use Rattle.dots.specs.Dot.{same_dot}
use Rattle.op_model.specs.Made.{next, erasure, Counts, IsWithin, IsAnywhere}
use Rattle.op_model.specs.Meaning.{state}
use Rattle.op_model.specs.Operation.{Write, Wrote, has}
use Rattle.op_model.specs.Place.{Place}
use Rattle.op_model.specs.State.{IsInside}
use Rattle.op_model.proofs.Dots.{same_dot-self, same_dot-symm, same_dot-true}
use Rattle.replica_model.specs.Mail.{Mail, Delta, Hello}
use Rattle.replica_model.specs.Replica.{Replica, Open, LIMIT, open_numbered, makes, flushed, next_session, opens, closes, restarts}
use Rattle.replica_model.specs.Delivery.{delivered}
use Rattle.replica_model.specs.Step.{Call, Put, Remove, RemoveField, Clear, Flush, Ask, Retry, Abandon, Restart, Answer, Nothing, Made, Counted, Numbered, Came}
use Rattle.replica_model.specs.Step.{Closed, Removes, Abandons, IsCall, Refuses, retried}
use Rattle.replica_model.specs.World.{World, Event, Node, At, Deliver, Message, message_at, is_node, has_peer, calls, takes, goes, Happens, RefusesEvent}
use Rattle.replica_model.specs.Laws.{HappenOrAreRefused}
use Rattle.replica_model.proofs.Finite.{IsFinite, finite_map, map_stands, dots_at, dots_at_place, dots_within, dots_at_key, all_dots, dots_anywhere, put_there}
use Rattle.replica_model.proofs.Puts.{WasPut, all_put}

-- ---- so many dots

each_once : List Dot → List Dot
each_once [] = []
each_once (d ∷ ds) = cond (has ds d) (each_once ds) (d ∷ each_once ds)

has-each_once : (ds : List Dot) (dot : Dot) → has (each_once ds) dot ≡ has ds dot
unfolding each_once
has-each_once [] dot = refl
has-each_once (d ∷ ds) dot = step (has ds d) refl (has-each_once ds dot) (same_dot d dot) refl
  where
    step : (b : Bool) → has ds d ≡ b → has (each_once ds) dot ≡ has ds dot → (s : Bool) → same_dot d dot ≡ s
        → has (cond b (each_once ds) (d ∷ each_once ds)) dot ≡ (same_dot d dot || has ds dot)
    step true there rest true same = rest ∙ sym (ap (has ds) (same_dot-true d dot same)) ∙ there ∙ sym (ap (λ x. x || has ds dot) same)
    step true there rest false same = rest ∙ sym (ap (λ x. x || has ds dot) same)
    step false not_there rest s same = ap (λ x. same_dot d dot || x) rest

neither : (a b : Bool) → (a || b) ≡ false → (a ≡ false) × (b ≡ false)
neither true b e = absurd (false≢true (sym e))
neither false b e = (refl, e)

none_same : (d : Dot) (ds : List Dot) → has ds d ≡ false → AllByRecursion (λ y. same_dot d y ≡ false) ds
none_same d [] e = tt
none_same d (x ∷ ds) e = let both = neither (same_dot x d) (has ds d) e in (same_dot-symm d x ∙ both.0, none_same d ds both.1)

distinct : (ds : List Dot) → IsDistinct same_dot (each_once ds)
unfolding IsDistinct each_once
distinct [] = tt
distinct (d ∷ ds) = step (has ds d) refl (distinct ds)
  where
    step : (b : Bool) → has ds d ≡ b → IsDistinct same_dot (each_once ds) → IsDistinct same_dot (cond b (each_once ds) (d ∷ each_once ds))
    step true there rest = rest
    step false not_there rest = (none_same d (each_once ds) (has-each_once ds d ∙ not_there), rest)

counts : (P : Dot → Type 0) (over : List Dot) → ((dot : Dot) → IsTrue (has over dot) ↔ P dot) → (n : ℕ) × Counts P n
counts P over just = (
  length (each_once over),
  record {
    dots = each_once over;
    apart = distinct over;
    just = λ dot. (λ h. (just dot).0 (sym (has-each_once over dot) ∙ h), λ p. has-each_once over dot ∙ (just dot).1 p);
    number = refl;
  },
)

-- ---- a call is carried out or refused

abbrev pub CarriesOut : Replica → Call → Type 0
CarriesOut old c = (new : Replica) × (answer : Answer) × (out : List Mail) × IsCall old c new answer out

abbrev pub CallsOrNot : Replica → Call → Type 0
CallsOrNot old c = CarriesOut old c ⊎ ((refusal : Refusal) × Refuses old c refusal)

removal : (P : Dot → Type 0) (old : Replica) (over : List Dot) → ((dot : Dot) → IsTrue (has over dot) ↔ P dot) → (new : Replica) × (answer : Answer)
    × (out : List Mail) × Removes P old new answer out
removal P old over just = let c = counts P over just in (makes old (state (erasure over)), Counted c.0, [], (over, just, refl, (c.0, c.1, refl), refl))

abandon : (old : Replica) (o : Option Open) → (new : Replica) × (answer : Answer) × Abandons old o new answer
abandon old None = (old, Closed false, (refl, refl))
abandon old (Some o) = (closes old o.session, Closed true, (refl, refl))

module _ (old : Replica) (live : IsFinite old.live) (inside : IsInside old.live) (group : IsFinite old.group) where
  write : Place → List ℕ → Write
  write place value = record { id = next old.name live.dots; place = place; value = value; over = dots_at old.live live inside place }

  put_or : (place : Place) (value : List ℕ) → ((next old.name live.dots).number < 2 ^ 64) ⊎ (2 ^ 64 ≤ (next old.name live.dots).number)
      → CallsOrNot old (Put place value)
  unfolding write
  put_or place value (inl lt) =
      inl (
        makes old (state (Wrote (write place value) ∷ [])),
        Made (write place value).id,
        [],
        (write place value, put_there old.live live inside old.name place value, lt, refl, refl, refl),
      )
  put_or place value (inr ge) = inr (NumbersSpent, ((write place value).id, (put_there old.live live inside old.name place value).id, ge, refl))

  ask_or : (peer : ℕ) → (length old.sessions < LIMIT) ⊎ (LIMIT ≤ length old.sessions) → (old.opened + 1 < 2 ^ 64) ⊎ (2 ^ 64 ≤ old.opened + 1)
      → CallsOrNot old (Ask peer)
  ask_or peer (inl few) (inl left) =
      let own = finite_map old.live live inside in
      inl (
        opens old peer own,
        Numbered (old.opened + 1),
        Hello (next_session old peer) old.live.has ∷ [],
        (own, map_stands old.live live inside, few, left, refl, refl, refl),
      )
  ask_or peer (inl few) (inr spent) = inr (NumbersSpent, inr (few, spent, refl))
  ask_or peer (inr full) left = inr (SessionsFull, inl (full, refl))

  flush : (ds : List Dot) → group.dots ≡ ds → CarriesOut old Flush
  flush [] e = (old, Nothing, [], (refl, inl (λ dot. group.knows dot ∙ ap (λ x. has x dot) e, refl, refl)))
  flush (d ∷ ds) e = (
    flushed old,
    Nothing,
    Delta old.group ∷ [],
    (refl, inr (λ none. false≢true (sym (none d) ∙ group.knows d ∙ ap (λ x. has x d) e ∙ or_left (same_dot d d) (has ds d) (same_dot-self d)), refl, refl)),
  )

  pub call_or : (c : Call) → CallsOrNot old c
  call_or (Put place value) = put_or place value (cases_lt (next old.name live.dots).number (2 ^ 64))
  call_or (Remove key) = inl (removal (IsWithin old.live key) old (dots_within old.live live inside key) (dots_at_key old.live live inside key))
  call_or (RemoveField place) = inl (removal (λ dot. IsSome (old.live.at place dot)) old (dots_at old.live live inside place)
      (dots_at_place old.live live inside place))
  call_or Clear = inl (removal (IsAnywhere old.live) old (all_dots old.live live inside) (dots_anywhere old.live live inside))
  call_or Flush = inl (flush group.dots refl)
  call_or (Ask peer) = ask_or peer (cases_lt (length old.sessions) LIMIT) (cases_lt (old.opened + 1) (2 ^ 64))
  call_or (Retry number) = inl (
    old,
    Came (retried old (open_numbered old.sessions number)).outcome,
    (retried old (open_numbered old.sessions number)).replies,
    (refl, refl, refl),
  )
  call_or (Abandon number) = let a = abandon old (open_numbered old.sessions number) in inl (a.0, a.1, [], (a.2, refl))
  call_or Restart = inl (restarts old, Nothing, [], (refl, refl, refl))

-- ---- events

module _ (hash_of : List ℕ → ℕ) (w : World) (puts : List Write) (was : WasPut hash_of puts w) where
  abbrev Either : Event → Type 0
  Either e = ((answer : Answer) × (v : World) × Happens hash_of w e answer v) ⊎ ((refusal : Refusal) × RefusesEvent w e refusal)

  node : (name : ℕ) (b : Bool) → is_node w name ≡ b → Either (Node name)
  node name true e = inr (NameTaken, (e, refl))
  node name false e = inl (Nothing, record w { nodes = w.nodes ++ name ∷ [] }, (e, refl, refl))

  call_at : (name : ℕ) (c : Call) (b p : Bool) → is_node w name ≡ b → has_peer w c ≡ p → CallsOrNot (w.replica name) c → Either (At name c)
  call_at name c false p e f done = inr (UnknownReplica, inl (e, refl))
  call_at name c true false e f done = inr (UnknownReplica, inr (e, inl (f, refl)))
  call_at name c true true e f (inl (new, answer, out, step)) =
      inl (answer, goes name new out (w.outgoing name) (calls name c w), (e, f, (new, out, step, refl)))
  call_at name c true true e f (inr (refusal, r)) = inr (refusal, inr (e, inr (f, r)))

  deliver : (number name : ℕ) (b : Bool) (o : Option Message) → is_node w name ≡ b → message_at w.messages number ≡ o → Either (Deliver number name)
  deliver number name false o e f = inr (UnknownReplica, inl (e, refl))
  deliver number name true None e f = inr (UnknownMessage, inr (e, f, refl))
  deliver number name true (Some x) e f =
      let live = was.live name in
      let own = finite_map (w.replica name).live live.is_finite live.inside in
      let t = delivered hash_of own (w.replica name) x.mail in
      let is = map_stands (w.replica name).live live.is_finite live.inside in
      inl (
        Came t.outcome,
        goes name t.new t.replies [] (takes name (w.replica name) x.mail x.of t.outcome w),
        (e, (x, f, (t.new, t.outcome, t.replies, refl, (t.outcome, refl, (own, is, refl)), refl))),
      )

  each : (e : Event) → Either e
  each (Node name) = node name (is_node w name) refl
  each (At name c) = call_at name c (is_node w name) (has_peer w c) refl refl
      (call_or (w.replica name) (was.live name).is_finite (was.live name).inside (was.group name).is_finite c)
  each (Deliver number name) = deliver number name (is_node w name) (message_at w.messages number) refl refl

pub happen_or_refused : HappenOrAreRefused
happen_or_refused hash_of events w runs = let put = all_put hash_of events w runs in each hash_of w put.0 put.1

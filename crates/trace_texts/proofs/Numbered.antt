-- Each dot that is known anywhere in a world has a number that a dot can have, after every list of events: what is known comes of puts, whose dots are
-- numbered from 1 on, and of what is joined in.
use Rattle.std.proofs.Common.{◌≡◌, ◌⊎◌, inl, inr, ℕ, ◌≤◌, ◌<◌, ◌^◌, List, [], ◌∷◌, ◌++◌, Bool, true, Option, Some, None, cond, arith, refl, sym}
use Rattle.std.proofs.Common.{ap, ◌∙◌, subst, ◌-◌, ◌==◌}
use Rattle.std.specs.Prelude.{IsTrue}
use Rattle.std.proofs.lemmas.Bool.{or_cases}
use Rattle.dots.specs.Dot.{DotValue, same_dot}
use Rattle.dots.specs.declared.dot.Dot.{Dot}
use Rattle.op_model.specs.Made.{erasure, IsPutAt}
use Rattle.op_model.specs.Meaning.{MapState, greater, state}
use Rattle.op_model.specs.Operation.{Write, Operation, Wrote, has}
use Rattle.op_model.specs.Place.{Place, place_of}
use Rattle.op_model.specs.State.{IsInside, join}
use Rattle.op_model.proofs.Dots.{same_dot-true}
use Rattle.op_model.proofs.Making.{has-write, has-erasure}
use Rattle.op_model.proofs.Members.{nothing_in}
use Rattle.wire_form.specs.Session.{SessionValue}
use Rattle.sync_model.specs.Closing.{held_state}
use Rattle.sync_model.specs.Differ.{Held}
use Rattle.replica_model.specs.Delivery.{Turn, turn}
use Rattle.replica_model.specs.Mail.{Mail}
use Rattle.replica_model.specs.Replica.{Replica, Open, open_numbered, makes}
use Rattle.replica_model.specs.Step.{Call, Put, Remove, RemoveField, Clear, Flush, Retry, Abandon, Restart, Answer, Abandons, IsCall}
use Rattle.replica_model.specs.Step as call
use Rattle.replica_model.specs.World.{World, Event, Node, At, Deliver, nothing, calls, goes, Happens, Runs}
use Rattle.replica_model.proofs.Calls.{called_ties}
use Rattle.replica_model.proofs.Carried.{Ties, by_name, delivered_ties, same_replicas}
use Rattle.replica_model.proofs.Ending.{Comes, comes}
use Rattle.replica_model.proofs.Fronts.{Delivered, delivery, by_events, none_at, same_after_calls}
use Rattle.replica_model.proofs.Puts.{all_put}
use Rattle.replica_model.proofs.Unchanged.{unchanged}
use Rattle.trace_texts.specs.Numbered.{IsNumbered, KnownDotsAreNumbered}

-- ---- states

join_numbered : (p q : MapState) → IsNumbered p.has → IsNumbered q.has → IsNumbered (join greater p q).has
join_numbered p q f g dot h = either (or_cases (p.has dot) (q.has dot) h)
  where
    either : (p.has dot ≡ true) ⊎ (q.has dot ≡ true) → (1 ≤ dot.number) × (dot.number < 2 ^ 64)
    either (inl e) = f dot e
    either (inr e) = g dot e

-- dots that are known already
erasure_numbered : (known : DotValue → Bool) → IsNumbered known → (over : List Dot) → ((dot : Dot) → IsTrue (has over dot) → IsTrue (known dot))
    → IsNumbered (state (erasure over)).has
erasure_numbered known f over within dot h = f dot (within dot (sym (has-erasure over dot) ∙ h))

nothing_numbered : IsNumbered (state []).has
nothing_numbered dot h = absurd cc

-- a put is under a dot above the known ones, which has a number that a dot can have
put_numbered : (p : MapState) (name : ℕ) (place : Place) (value : List ℕ) (w : Write) → IsInside p → IsNumbered p.has → IsPutAt p name place value w
    → w.id.number < 2 ^ 64 → IsNumbered (state (Wrote w ∷ [])).has
put_numbered p name place value w inside f put few dot h = either (or_cases (same_dot w.id dot) (has w.over dot) (sym (has-write w dot) ∙ h))
  where
    first : (w.id.number ≡ 1) ⊎ IsTrue (p.has (record { name = name; number = w.id.number - 1 })) → 1 ≤ w.id.number
    first (inl e) = omega (arith, e)
    first (inr k) = let before = (f (record { name = name; number = w.id.number - 1 }) k).0 in omega (arith, before)

    either : (same_dot w.id dot ≡ true) ⊎ (has w.over dot ≡ true) → (1 ≤ dot.number) × (dot.number < 2 ^ 64)
    either (inl e) =
        subst (λ (d : Dot). (1 ≤ d.number) × (d.number < 2 ^ 64)) (same_dot-true w.id dot e) (first put.id.least, few)
    either (inr e) = f dot (inside place dot (sym (put.over dot) ∙ e))

-- ---- what is said of a snapshot, of an ask and of a delta

abbrev SnapNumbered : SessionValue → List Operation → Held → (DotValue → Bool) → Type 0
SnapNumbered s S m c = IsNumbered c

abbrev AsksAny : ℕ → SessionValue → Held → (DotValue → Bool) → Type 0
AsksAny name s own known = Unit {0}

abbrev SendsNumbered : MapState → List Operation → Type 0
SendsNumbered d S = IsNumbered d.has

record AllNumbered (hash_of : List ℕ → ℕ) (w : World) : Type 0 where
  ties : Ties hash_of SnapNumbered AsksAny SendsNumbered w
  live : (name : ℕ) → IsNumbered (w.replica name).live.has
  group : (name : ℕ) → IsNumbered (w.replica name).group.has

-- what a call makes of its replica
abbrev BothNumbered : Replica → Type 0
BothNumbered r = IsNumbered r.live.has × IsNumbered r.group.has

module _ (old : Replica) (inside : IsInside old.live) (live : IsNumbered old.live.has) (group : IsNumbered old.group.has) where
  made : (delta : MapState) (new : Replica) → IsNumbered delta.has → new ≡ makes old delta → BothNumbered new
  made delta new f n = subst BothNumbered (sym n) (join_numbered old.live delta live f, join_numbered old.group delta group f)

  removed : (over : List Dot) (new : Replica) → ((dot : Dot) → IsTrue (has over dot) → IsTrue (old.live.has dot)) → new ≡ makes old (state (erasure over))
      → BothNumbered new
  removed over new within n = made (state (erasure over)) new (erasure_numbered old.live.has live over within) n

  left : (new : Replica) → new.live ≡ old.live → new.group ≡ old.group → BothNumbered new
  left new l g = (subst (λ (p : MapState). IsNumbered p.has) (sym l) live, subst (λ (p : MapState). IsNumbered p.has) (sym g) group)

  abandoned : (o : Option Open) (new : Replica) (answer : Answer) → Abandons old o new answer → BothNumbered new
  abandoned None new answer (n, a) = left new (ap (λ (x : Replica). x.live) n) (ap (λ (x : Replica). x.group) n)
  abandoned (Some o) new answer (n, a) = left new (ap (λ (x : Replica). x.live) n) (ap (λ (x : Replica). x.group) n)

  call_numbered : (c : Call) (new : Replica) (answer : Answer) (out : List Mail) → IsCall old c new answer out → BothNumbered new
  call_numbered (Put place value) new answer out (v, put, few, n, a, o) =
      made (state (Wrote v ∷ [])) new (put_numbered old.live old.name place value v inside live put few) n
  call_numbered (Remove key) new answer out (over, just, n, a, o) =
      removed over new (λ dot h. let at = (just dot).0 h in inside (place_of key at.0) dot at.1) n
  call_numbered (RemoveField place) new answer out (over, just, n, a, o) = removed over new (λ dot h. inside place dot ((just dot).0 h)) n
  call_numbered Clear new answer out (over, just, n, a, o) = removed over new (λ dot h. let at = (just dot).0 h in inside at.0 dot at.1) n
  call_numbered Flush new answer out (a, inl (none, n, o)) = left new (ap (λ (x : Replica). x.live) n) (ap (λ (x : Replica). x.group) n)
  call_numbered Flush new answer out (a, inr (some, n, o)) = (
    subst (λ (p : MapState). IsNumbered p.has) (sym (ap (λ (x : Replica). x.live) n)) live,
    subst (λ (p : MapState). IsNumbered p.has) (sym (ap (λ (x : Replica). x.group) n)) nothing_numbered,
  )
  call_numbered (call.Ask peer) new answer out (own, is, few, room, n, a, o) = left new (ap (λ (x : Replica). x.live) n) (ap (λ (x : Replica). x.group) n)
  call_numbered (Retry number) new answer out (n, a, o) = left new (ap (λ (x : Replica). x.live) n) (ap (λ (x : Replica). x.group) n)
  call_numbered (Abandon number) new answer out (step, o) = abandoned (open_numbered old.sessions number) new answer step
  call_numbered Restart new answer out (n, a, o) = left new (ap (λ (x : Replica). x.live) n) (ap (λ (x : Replica). x.group) n)

-- ---- all events

module _ (hash_of : List ℕ → ℕ) where
  numbered_first : AllNumbered hash_of nothing
  numbered_first = record {
    ties = record {
      named = λ n. refl;
      kept = λ n k h. nothing_in k h;
      sessions = λ n o h. nothing_in o h;
      messages = λ number m is. absurd (none_at number m is);
    };
    live = λ n. nothing_numbered;
    group = λ n. nothing_numbered;
  }

  numbered_node : (w : World) (name : ℕ) → AllNumbered hash_of w → AllNumbered hash_of (record w { nodes = w.nodes ++ name ∷ [] })
  numbered_node w name all = record {
    ties = record { named = all.ties.named; kept = all.ties.kept; sessions = all.ties.sessions; messages = all.ties.messages };
    live = all.live;
    group = all.group;
  }

  numbered_call : (w : World) (name : ℕ) → IsInside (w.replica name).live → AllNumbered hash_of w → (c : Call) (new : Replica) (answer : Answer)
      (out : List Mail) → IsCall (w.replica name) c new answer out → AllNumbered hash_of (goes name new out (w.outgoing name) (calls name c w))
  numbered_call w name inside all c new answer out step =
      let both = call_numbered (w.replica name) inside (all.live name) (all.group name) c new answer out step in
      record {
        ties = called_ties hash_of SnapNumbered AsksAny SendsNumbered w name all.ties (all.group name) c (λ peer own is_ask is. tt) new answer out step;
        live = subst (λ g. (n : ℕ) → IsNumbered (cond (n == name) new (g n)).live.has) (sym (same_after_calls hash_of w name c))
            (by_name (λ n r. IsNumbered r.live.has) name new w.replica both.0 (λ n apart. all.live n));
        group = subst (λ g. (n : ℕ) → IsNumbered (cond (n == name) new (g n)).group.has) (sym (same_after_calls hash_of w name c))
            (by_name (λ n r. IsNumbered r.group.has) name new w.replica both.1 (λ n apart. all.group n));
      }

  module _ (w : World) (name : ℕ) (all : AllNumbered hash_of w) (number : ℕ) (answer : Answer) (v : World) (d : Delivered hash_of w number name answer v) where
    live_after : IsNumbered d.new.live.has
    live_after =
        by (subst (Comes hash_of SnapNumbered AsksAny SendsNumbered w name d.message.mail d.message.of) d.step
        (comes hash_of SnapNumbered AsksAny SendsNumbered w name all.ties d.own d.message.mail d.message.of (all.ties.messages number d.message d.there)))
      where
        by : Comes hash_of SnapNumbered AsksAny SendsNumbered w name d.message.mail d.message.of (turn d.new d.outcome d.out) → IsNumbered d.new.live.has
        by (inl l) = subst (λ (p : MapState). IsNumbered p.has) (sym l.live) (join_numbered (w.replica name).live l.delta (all.live name) l.sends)
        by (inr (inl e)) = subst (λ (p : MapState). IsNumbered p.has) (sym e.live)
            (join_numbered (w.replica name).live (held_state e.fetched.built e.context) (all.live name) e.snap)
        by (inr (inr s)) = subst (λ (p : MapState). IsNumbered p.has) (sym s.live) (all.live name)

    group_after : IsNumbered d.new.group.has
    group_after =
        subst (λ (p : MapState). IsNumbered p.has)
        (sym (ap (λ (t : Turn). t.new.group) (sym d.step) ∙ (unchanged hash_of d.own (w.replica name) d.message.mail).1)) (all.group name)

    numbered_delivery : AllNumbered hash_of v
    numbered_delivery =
        let replicas = same_replicas w name (w.replica name) d.message.mail d.message.of d.outcome in
        subst (AllNumbered hash_of) (sym d.after) (record {
          ties = delivered_ties hash_of SnapNumbered AsksAny SendsNumbered w name d.own d.message number all.ties d.there
              (λ s seen hello here none. all.live name) d.new d.outcome d.out d.step;
          live = subst (λ g. (n : ℕ) → IsNumbered (cond (n == name) d.new (g n)).live.has) (sym replicas)
              (by_name (λ n r. IsNumbered r.live.has) name d.new w.replica live_after (λ n apart. all.live n));
          group = subst (λ g. (n : ℕ) → IsNumbered (cond (n == name) d.new (g n)).group.has) (sym replicas)
              (by_name (λ n r. IsNumbered r.group.has) name d.new w.replica group_after (λ n apart. all.group n));
        })

  numbered_next : (events : List Event) (w v : World) (e : Event) (answer : Answer) → Runs hash_of nothing events w → AllNumbered hash_of w
      → Happens hash_of w e answer v → AllNumbered hash_of v
  numbered_next events w v (Node name) answer runs all (new, a, e) = subst (AllNumbered hash_of) (sym e) (numbered_node w name all)
  numbered_next events w v (At name c) answer runs all (there, peer, (new, out, step, e)) =
      subst (AllNumbered hash_of) (sym e) (numbered_call w name ((all_put hash_of events w runs).1.live name).inside all c new answer out step)
  numbered_next events w v (Deliver number name) answer runs all happens =
      numbered_delivery w name all number answer v (delivery hash_of w v number name answer happens)

pub known_numbered : KnownDotsAreNumbered
known_numbered hash_of events w runs =
    (by_events hash_of (λ events w. AllNumbered hash_of w) (numbered_first hash_of) (numbered_next hash_of) events w runs).live

-- What holds by fronts of the events: each open session is of an ask, and each snapshot of a hello that was taken.
use Rattle.std.proofs.Common.{◌≡◌, ℕ, ◌+◌, ◌==◌, List, [], ◌∷◌, ◌++◌, Bool, Some, None, cond, refl, sym, ap, ◌∙◌, subst, append_assoc}
use Rattle.std.proofs.lemmas.List.{append-nil}
use Rattle.dots.specs.Dot.{DotValue}
use Rattle.op_model.specs.Meaning.{MapState}
use Rattle.op_model.specs.Operation.{Operation}
use Rattle.wire_form.specs.Session.{SessionValue}
use Rattle.prefix_digest.specs.MapOf.{IsMapOf}
use Rattle.sync_model.specs.Closing.{held_state, IsBelow}
use Rattle.sync_model.specs.Differ.{Held}
use Rattle.replica_model.specs.Mail.{Mail, Hello}
use Rattle.replica_model.specs.Replica.{Replica, kept_at, next_session}
use Rattle.replica_model.specs.Delivery.{Outcome, turn, delivered}
use Rattle.replica_model.specs.Step.{Call, Ask, Answer, Came, IsCall}
use Rattle.replica_model.specs.World.{World, Event, Node, At, Deliver, Message, message_at, nothing, calls, takes, goes, Happens, Runs}
use Rattle.replica_model.specs.Sessions.{IsTakenOf, IsAskOf}
use Rattle.replica_model.specs.Laws.{Sessions, Openings}
use Rattle.replica_model.proofs.Deciding.{goes_on, came_one}
use Rattle.replica_model.proofs.Growing.{below_below, map_below, call_grows, delivery_grows}
use Rattle.replica_model.proofs.Ties.{MailTie}
use Rattle.replica_model.proofs.Carried.{Ties, by_name, delivered_ties, same_replicas}
use Rattle.replica_model.proofs.Calls.{more_ties, called_ties}

-- ---- what holds at first and is kept by each event holds after every list of events

module _ (hash_of : List ℕ → ℕ) (P : List Event → World → Type 0) (first : P [] nothing)
    (next : (events : List Event) (w v : World) (e : Event) (answer : Answer) → Runs hash_of nothing events w → P events w
    → Happens hash_of w e answer v → P (events ++ e ∷ []) v) where
  further : (front es : List Event) (u w : World) → Runs hash_of nothing front u → P front u → Runs hash_of u es w → P (front ++ es) w
  further front [] u w runs p e = subst (λ f. P f w) (sym (append-nil front)) (subst (P front) (sym e) p)
  further front (x ∷ es) u w runs p (answer, t, step, rest) =
      subst (λ f. P f w) (append_assoc front (x ∷ []) es)
      (further (front ++ x ∷ []) es t w (goes_on hash_of front u t x answer runs step) (next front u t x answer runs p step) rest)

  pub by_events : (events : List Event) (w : World) → Runs hash_of nothing events w → P events w
  by_events events w runs = further [] events nothing w refl first runs

-- no message is there at first
pub none_at : (number : ℕ) (m : Message) → message_at [] number ≡ Some m → ⊥
none_at Rattle.std.proofs.Common.zero m is = absurd cc
none_at (Rattle.std.proofs.Common.suc n) m is = absurd cc

-- ---- a delivery, taken apart

pub record Delivered (hash_of : List ℕ → ℕ) (w : World) (number name : ℕ) (answer : Answer) (v : World) : Type 0 where
  pub message : Message
  pub there : message_at w.messages number ≡ Some message
  pub own : Held
  pub is_own : IsMapOf own (w.replica name).live
  pub new : Replica
  pub outcome : Outcome
  pub out : List Mail
  pub answers : answer ≡ Came outcome
  pub step : delivered hash_of own (w.replica name) message.mail ≡ turn new outcome out
  pub after : v ≡ goes name new out [] (takes name (w.replica name) message.mail message.of outcome w)

pub delivery : (hash_of : List ℕ → ℕ) (w v : World) (number name : ℕ) (answer : Answer) → Happens hash_of w (Deliver number name) answer v
    → Delivered hash_of w number name answer v
delivery hash_of w v number name answer (node, (m, there, (new, outcome, out, a, (second, b, (own, is, step)), after))) =
    let same : second ≡ outcome = came_one second outcome (sym b ∙ a) in
    record {
      message = m;
      there = there;
      own = own;
      is_own = is;
      new = new;
      outcome = outcome;
      out = out;
      answers = a;
      step = step ∙ ap (λ o. turn new o out) same;
      after = after;
    }

-- ---- fronts

-- the one replica grew, and the others stay
pub grown_there : (w : World) (name : ℕ) (new : Replica) → IsBelow (w.replica name).live new.live → (n : ℕ)
    → IsBelow (w.replica n).live (cond (n == name) new (w.replica n)).live
grown_there w name new grew = by_name (λ n r. IsBelow (w.replica n).live r.live) name new w.replica grew
    (λ n apart. Rattle.replica_model.proofs.Growing.below_itself (w.replica n).live)

module _ (hash_of : List ℕ → ℕ) where
  taken_more : (events : List Event) (e : Event) (s : SessionValue) (S : List Operation) (m : Held) (c : DotValue → Bool) → IsTakenOf hash_of events s S m c
      → IsTakenOf hash_of (events ++ e ∷ []) s S m c
  taken_more events e s S m c t = record {
    front = t.front;
    number = t.number;
    later = t.later ++ e ∷ [];
    split = ap (λ x. x ++ e ∷ []) t.split ∙ append_assoc t.front (Deliver t.number s.answerer ∷ t.later) (e ∷ []);
    before = t.before;
    runs = t.runs;
    message = t.message;
    there = t.there;
    known = t.known;
    hello = t.hello;
    none_kept = t.none_kept;
    seen_then = t.seen_then;
    map_then = t.map_then;
    known_then = t.known_then;
  }

  pub ask_more : (events : List Event) (e : Event) (s : SessionValue) (m : Held) (c : DotValue → Bool) → IsAskOf hash_of events s m c
      → IsAskOf hash_of (events ++ e ∷ []) s m c
  ask_more events e s m c t = record {
    front = t.front;
    later = t.later ++ e ∷ [];
    split = ap (λ x. x ++ e ∷ []) t.split ∙ append_assoc t.front (At s.asker (Ask s.answerer) ∷ t.later) (e ∷ []);
    before = t.before;
    runs = t.runs;
    numbered = t.numbered;
    own_then = t.own_then;
    known_then = t.known_then;
  }

  -- what is said of an ask, and of a delta
  abbrev pub AskedIn : List Event → World → ℕ → SessionValue → Held → (DotValue → Bool) → Type 0
  AskedIn events w name s own known = IsAskOf hash_of events s own known × IsBelow (held_state own known) (w.replica name).live

  abbrev pub SendsAny : MapState → List Operation → Type 0
  SendsAny d S = Unit {0}

  abbrev pub Told : List Event → World → Type 0
  Told events w = Ties hash_of (IsTakenOf hash_of events) (AskedIn events w) SendsAny w

  more_told : (events : List Event) (e : Event) (w v : World) → ((n : ℕ) → IsBelow (w.replica n).live (v.replica n).live) → Told events w
      → Ties hash_of (IsTakenOf hash_of (events ++ e ∷ [])) (AskedIn (events ++ e ∷ []) v) SendsAny w
  more_told events e w v grew =
      more_ties hash_of (IsTakenOf hash_of events) (IsTakenOf hash_of (events ++ e ∷ [])) (AskedIn events w) (AskedIn (events ++ e ∷ []) v) SendsAny SendsAny
      (taken_more events e)
      (λ n s m c a. (ask_more events e s m c a.0, below_below (held_state m c) (w.replica n).live (v.replica n).live a.1 (grew n)))
      (λ d S h. h)
      w

  told_node : (events : List Event) (w : World) (name : ℕ) → Told events w → Told (events ++ Node name ∷ []) (record w { nodes = w.nodes ++ name ∷ [] })
  told_node events w name t =
      let u = more_told events (Node name) w w (λ n. Rattle.replica_model.proofs.Growing.below_itself (w.replica n).live) t in
      record { named = u.named; kept = u.kept; sessions = u.sessions; messages = u.messages }

  -- an ask that was just made
  pub asked_now : (events : List Event) (w : World) (name peer : ℕ) (own : Held) → Runs hash_of nothing events w → (w.replica name).name ≡ name
      → IsMapOf own (w.replica name).live
      → IsAskOf hash_of (events ++ At name (Ask peer) ∷ []) (next_session (w.replica name) peer) own (w.replica name).live.has
  asked_now events w name peer own runs named is = record {
    front = events;
    later = [];
    split = ap (λ n. events ++ At n (Ask peer) ∷ []) (sym named);
    before = w;
    runs = runs;
    numbered = ap (λ n. (w.replica n).opened + 1) (sym named);
    own_then = subst (λ n. IsMapOf own (w.replica n).live) (sym named) is;
    known_then = ap (λ n. (w.replica n).live.has) (sym named);
  }

  pub same_after_calls : (w : World) (name : ℕ) (c : Call) → (calls name c w).replica ≡ w.replica
  same_after_calls w name (Rattle.replica_model.specs.Step.Put place value) = refl
  same_after_calls w name (Rattle.replica_model.specs.Step.Remove key) = refl
  same_after_calls w name (Rattle.replica_model.specs.Step.RemoveField place) = refl
  same_after_calls w name Rattle.replica_model.specs.Step.Clear = refl
  same_after_calls w name Rattle.replica_model.specs.Step.Flush = refl
  same_after_calls w name (Ask peer) = refl
  same_after_calls w name (Rattle.replica_model.specs.Step.Retry number) = refl
  same_after_calls w name (Rattle.replica_model.specs.Step.Abandon number) = refl
  same_after_calls w name Rattle.replica_model.specs.Step.Restart = refl

  told_call : (events : List Event) (w : World) (name : ℕ) (c : Call) (new : Replica) (answer : Answer) (out : List Mail) → Runs hash_of nothing events w
      → Told events w
      → IsCall (w.replica name) c new answer out → Told (events ++ At name c ∷ []) (goes name new out (w.outgoing name) (calls name c w))
  told_call events w name c new answer out runs t step =
      let v = goes name new out (w.outgoing name) (calls name c w) in
      let grew : (n : ℕ) → IsBelow (w.replica n).live (v.replica n).live =
      subst (λ f. (n : ℕ) → IsBelow (w.replica n).live (cond (n == name) new (f n)).live) (sym (same_after_calls w name c))
      (grown_there w name new (call_grows (w.replica name) new c answer out step)) in
      called_ties hash_of (IsTakenOf hash_of (events ++ At name c ∷ [])) (AskedIn (events ++ At name c ∷ []) v) SendsAny w name
      (more_told events (At name c) w v grew t) tt c
      (λ peer own is_ask is. (
        subst (λ x. IsAskOf hash_of (events ++ At name x ∷ []) (next_session (w.replica name) peer) own (w.replica name).live.has) (sym is_ask)
            (asked_now events w name peer own runs (t.named name) is),
        below_below (held_state own (w.replica name).live.has) (w.replica name).live (v.replica name).live (map_below own (w.replica name).live is) (grew name),
      ))
      new answer out step

  -- a snapshot that was just taken
  taken_now : (events : List Event) (w : World) (number name : ℕ) (m : Message) (own : Held) → Runs hash_of nothing events w
      → message_at w.messages number ≡ Some m → IsMapOf own (w.replica name).live
      → (s : SessionValue) (seen : DotValue → Bool) → m.mail ≡ Hello s seen → s.answerer ≡ name → kept_at (w.replica name).kept s ≡ None
      → IsTakenOf hash_of (events ++ Deliver number name ∷ []) s (w.seen name) own (w.replica name).live.has
  taken_now events w number name m own runs there is s seen hello here none = record {
    front = events;
    number = number;
    later = [];
    split = ap (λ n. events ++ Deliver number n ∷ []) (sym here);
    before = w;
    runs = runs;
    message = m;
    there = there;
    known = seen;
    hello = hello;
    none_kept = ap (λ n. kept_at (w.replica n).kept s) here ∙ none;
    seen_then = ap w.seen (sym here);
    map_then = subst (λ n. IsMapOf own (w.replica n).live) (sym here) is;
    known_then = ap (λ n. (w.replica n).live.has) (sym here);
  }

  told_delivery : (events : List Event) (w v : World) (number name : ℕ) (answer : Answer) → Runs hash_of nothing events w → Told events w
      → Delivered hash_of w number name answer v → Told (events ++ Deliver number name ∷ []) v
  told_delivery events w v number name answer runs t d =
      let u = takes name (w.replica name) d.message.mail d.message.of d.outcome w in
      let x = goes name d.new d.out [] u in
      let here : IsBelow (w.replica name).live d.new.live =
      subst (λ (y : Rattle.replica_model.specs.Delivery.Turn). IsBelow (w.replica name).live y.new.live) d.step
      (delivery_grows hash_of d.own (w.replica name) d.message.mail) in
      let grew : (n : ℕ) → IsBelow (w.replica n).live (x.replica n).live =
      subst (λ f. (n : ℕ) → IsBelow (w.replica n).live (cond (n == name) d.new (f n)).live)
      (sym (same_replicas w name (w.replica name) d.message.mail d.message.of d.outcome)) (grown_there w name d.new here) in
      subst (Told (events ++ Deliver number name ∷ [])) (sym d.after)
      (delivered_ties hash_of (IsTakenOf hash_of (events ++ Deliver number name ∷ [])) (AskedIn (events ++ Deliver number name ∷ []) x)
      SendsAny w name d.own d.message number
      (more_told events (Deliver number name) w x grew t) d.there (taken_now events w number name d.message d.own runs d.there d.is_own)
      d.new d.outcome d.out d.step)

  told_next : (events : List Event) (w v : World) (e : Event) (answer : Answer) → Runs hash_of nothing events w → Told events w → Happens hash_of w e answer v
      → Told (events ++ e ∷ []) v
  told_next events w v (Node name) answer runs t (new, a, e) = subst (Told (events ++ Node name ∷ [])) (sym e) (told_node events w name t)
  told_next events w v (At name c) answer runs t (there, peer, (new, out, step, e)) =
      subst (Told (events ++ At name c ∷ [])) (sym e) (told_call events w name c new answer out runs t step)
  told_next events w v (Deliver number name) answer runs t h = told_delivery events w v number name answer runs t (delivery hash_of w v number name answer h)

  told_first : Told [] nothing
  told_first = record {
    named = λ n. refl;
    kept = λ n k h. Rattle.op_model.proofs.Members.nothing_in k h;
    sessions = λ n o h. Rattle.op_model.proofs.Members.nothing_in o h;
    messages = λ number m is. absurd (none_at number m is);
  }

  pub told : (events : List Event) (w : World) → Runs hash_of nothing events w → Told events w
  told = by_events hash_of Told told_first told_next

pub sessions_are : Sessions
sessions_are hash_of events w runs name o h =
    let t = (told hash_of events w runs).sessions name o h in
    record { asker = t.asker; asked = t.asked.0; below = t.asked.1; fetching = t.fetched }

pub openings_are : Openings
openings_are hash_of events w runs number m there s context root is =
    let tie = subst (λ x. MailTie hash_of (IsTakenOf hash_of events) (AskedIn hash_of events w) (SendsAny hash_of) x m.of) is
    ((told hash_of events w runs).messages number m there) in
    record { snapshot = tie.0; digest = tie.1 }

-- A store's write as occurrences of a system.
use Rattle.std.proofs.Common.{◌≡◌, ◌≢◌, ◌⊎◌, inl, inr, ℕ, true, eq-eqb, List, [], ◌∷◌, ◌++◌, length, refl, sym, ap, subst, ◌∙◌, cond, ◌==◌}
use Rattle.std.proofs.lemmas.List.{append-nil}
use Rattle.dots.specs.declared.dot.Dot.{Dot}
use Rattle.op_model.specs.World.{is_among}
use Rattle.replica_model.specs.Crashing.{System, Occurrence, Saving, Crashes, Does, Goes, Occurs, put, goes, nodes_after}
use Rattle.replica_model.specs.Delivery.{Outcome, Sent}
use Rattle.replica_model.specs.Mail.{Mail}
use Rattle.replica_model.specs.Replica.{Replica, restarts}
use Rattle.replica_model.specs.Step.{Call, Put, Remove, RemoveField, Clear, Flush, Ask, Retry, Abandon, Restart, Do, Answer, Nothing, Made, Counted, Came}
use Rattle.replica_model.specs.Step.{IsStep}
use Rattle.replica_model.specs.World.{Event, Node, At, Deliver}
use Rattle.replica_model.specs.Laws.{replica_of}
use Rattle.replica_store.specs.Rebuilt.{IsRebuilt}
use Rattle.replica_store.specs.Systems.{IsWrite, written, WritesAreSaved, CrashesComeBack, EventsAreSaved, EventsComeBack, AllAreSaved, AllComeBack, AreMade}
use Rattle.replica_store.specs.Systems.{all_written, flushing, happened, passing}
use Rattle.replica_store.proofs.Rebuilt.{one_rebuilt}

put_there : {X : Type 0} (f : ℕ → X) (name : ℕ) (x : X) → put f name x name ≡ x
put_there f name x = ap (λ b. cond b x (f name)) (eq-eqb name name refl)

-- no write is answered as a delivery that is taken
not_made : {d : Dot} {o : Outcome} → Made d ≡ Came o → ⊥
not_made e = cc

not_counted : {n : ℕ} {o : Outcome} → Counted n ≡ Came o → ⊥
not_counted e = cc

module _ (hash_of : List ℕ → ℕ) (s : System) (name : ℕ) (there : is_among s.nodes name ≡ true) where
  -- a write passes
  passes : (call : Call) (mid : Replica) (answer : Answer) → IsWrite call → IsStep hash_of (s.replica name) (Do call) mid answer []
      → Occurs hash_of s (passing name call answer) (goes hash_of s (At name call) mid [])
  passes (Put place value) mid answer is step = (mid, (there, refl, step), refl, (λ e. not_made (sym step.4 ∙ e)), refl)
  passes (Remove key) mid answer is step = (mid, (there, refl, step), refl, (λ e. not_counted (sym step.3.2 ∙ e)), refl)
  passes (RemoveField place) mid answer is step = (mid, (there, refl, step), refl, (λ e. not_counted (sym step.3.2 ∙ e)), refl)
  passes Clear mid answer is step = (mid, (there, refl, step), refl, (λ e. not_counted (sym step.3.2 ∙ e)), refl)
  passes Flush mid answer is step = absurd is
  passes (Ask peer) mid answer is step = absurd is
  passes (Retry number) mid answer is step = absurd is
  passes (Abandon number) mid answer is step = absurd is
  passes Restart mid answer is step = absurd is

  module _ (call : Call) (mid new : Replica) (answer : Answer) (out : List Mail) (is : IsWrite call)
      (made : IsStep hash_of (s.replica name) (Do call) mid answer []) (sent : IsStep hash_of mid (Do Flush) new Nothing out) where
    abbrev after : System
    after = record (goes hash_of (goes hash_of s (At name call) mid []) (At name Flush) new out) { saved = put s.saved name new }

    saves : Occurs hash_of (goes hash_of s (At name call) mid []) (flushing name (length out)) after
    saves = (new, out, (there, refl, subst (λ r. IsStep hash_of r (Do Flush) new Nothing out) (sym (put_there s.replica name mid)) sent), refl, refl)

    pub wrote : (t : System) × (Goes hash_of s (written name call answer (length out)) t × (t.replica name ≡ new) × (t.saved name ≡ new) × (t.messages ≡ s.messages ++ out))
        × (t.nodes ≡ s.nodes)
    wrote = (
      after,
      (
        (goes hash_of s (At name call) mid [], passes call mid answer is made, (after, saves, refl)),
        put_there (put s.replica name mid) name new,
        put_there s.saved name new,
        ap (λ ms. ms ++ out) (append-nil s.messages),
      ),
      refl,
    )

  -- a crash puts what was saved in place
  pub crashed : (t : System) × Occurs hash_of s (Crashes name) t × (t.replica name ≡ restarts (s.saved name))
  crashed = (_, (there, refl), put_there s.replica name (restarts (s.saved name)))

restarts_twice : (r : Replica) → restarts (restarts r) ≡ restarts r
restarts_twice r = refl

pub writes_are_saved : WritesAreSaved
writes_are_saved hash_of s name call mid new answer out is there made sent =
    let w = wrote hash_of s name there call mid new answer out is made sent in
    (w.0, w.1.0, w.1.1, w.1.2, w.1.3)

goes_on : (hash_of : List ℕ → ℕ) (xs ys : List Occurrence) (s t u : System) → Goes hash_of s xs t → Goes hash_of t ys u → Goes hash_of s (xs ++ ys) u
goes_on hash_of [] ys s t u first more = subst (λ a. Goes hash_of a ys u) first more
goes_on hash_of (x ∷ xs) ys s t u first more = (first.0, first.1, goes_on hash_of xs ys first.0 t u first.2 more)

pub crashes_come_back : CrashesComeBack
crashes_come_back hash_of s name call mid new answer out strings back is there saved made sent kept rebuilt = elim kept [
  | inl old ↦ (
      let c = crashed hash_of s name there in
      (c.0, inl (c.0, c.1, refl), c.2 ∙ saved ∙ one_rebuilt strings (restarts (s.replica name)) back old rebuilt))
  | inr now ↦ (
      let w = wrote hash_of s name there call mid new answer out is made sent in
      let c = crashed hash_of w.0 name (ap (λ ns. is_among ns name) w.2 ∙ there) in (
        c.0,
        inr (goes_on hash_of (written name call answer (length out)) (Crashes name ∷ []) s w.0 c.0 w.1.0 (c.0, c.1, refl)),
        c.2 ∙ ap restarts w.1.2 ∙ one_rebuilt strings (restarts new) back now rebuilt,
      ))
]

-- ---- any event

module _ (hash_of : List ℕ → ℕ) (s : System) (event : Event) (new : Replica) (answer : Answer) (out : List Mail)
    (does : Does hash_of s event new answer out) where
  abbrev saving : System
  saving = record (goes hash_of s event new out) { saved = put s.saved (replica_of event) new }

  occurred : Goes hash_of s (Saving (happened event answer out) ∷ []) saving
  occurred = (saving, (new, out, does, refl, refl), refl)

still_there : (hash_of : List ℕ → ℕ) (s : System) (event : Event) (new : Replica) (answer : Answer) (out : List Mail) → Does hash_of s event new answer out
    → is_among s.nodes (replica_of event) ≡ true → is_among (nodes_after s.nodes event) (replica_of event) ≡ true
still_there hash_of s (Node name) new answer out does there = absurd (let e = sym does.0 ∙ there in cc)
still_there hash_of s (At name call) new answer out does there = there
still_there hash_of s (Deliver number name) new answer out does there = there

pub events_are_saved : EventsAreSaved
events_are_saved hash_of s event new answer out does = (
  saving hash_of s event new answer out does,
  occurred hash_of s event new answer out does,
  put_there s.replica (replica_of event) new,
  put_there s.saved (replica_of event) new,
  refl,
)

pub events_come_back : EventsComeBack
events_come_back hash_of s event new answer out strings back there saved does kept rebuilt = elim kept [
  | inl old ↦ (
      let c = crashed hash_of s (replica_of event) there in
      (c.0, inl (c.0, c.1, refl), c.2 ∙ saved ∙ one_rebuilt strings (restarts (s.replica (replica_of event))) back old rebuilt))
  | inr now ↦ (
      let t = saving hash_of s event new answer out does in
      let c = crashed hash_of t (replica_of event) (still_there hash_of s event new answer out does there) in (
        c.0,
        inr (goes_on hash_of (Saving (happened event answer out) ∷ []) (Crashes (replica_of event) ∷ []) s t c.0 (occurred hash_of s event new answer out does) (c.0, c.1, refl)),
        c.2 ∙ ap restarts (put_there s.saved (replica_of event) new) ∙ one_rebuilt strings (restarts new) back now rebuilt,
      ))
]

-- ---- several writes

all_wrote : (hash_of : List ℕ → ℕ) (s : System) (name : ℕ) (calls : List Call) (answers : List Answer) (mid new : Replica) (out : List Mail)
    → is_among s.nodes name ≡ true → AreMade hash_of (s.replica name) calls answers mid → IsStep hash_of mid (Do Flush) new Nothing out
    → (t : System) × (Goes hash_of s (all_written name calls answers (length out)) t × (t.replica name ≡ new) × (t.saved name ≡ new) × (t.messages ≡ s.messages ++ out))
    × (t.nodes ≡ s.nodes)
all_wrote hash_of s name [] [] mid new out there made sent =
    let does : Does hash_of s (At name Flush) new Nothing out = (there, refl, subst (λ r. IsStep hash_of r (Do Flush) new Nothing out) made sent) in (
      saving hash_of s (At name Flush) new Nothing out does,
      (occurred hash_of s (At name Flush) new Nothing out does, put_there s.replica name new, put_there s.saved name new, refl),
      refl,
    )
all_wrote hash_of s name [] (a ∷ answers) mid new out there made sent = absurd made
all_wrote hash_of s name (c ∷ calls) [] mid new out there made sent = absurd made
all_wrote hash_of s name (c ∷ calls) (a ∷ answers) mid new out there made sent =
    let next = goes hash_of s (At name c) made.1.0 [] in
    let more = all_wrote hash_of next name calls answers mid new out there
    (subst (λ r. AreMade hash_of r calls answers mid) (sym (put_there s.replica name made.1.0)) made.1.2) sent in (
      more.0,
      (
        (next, passes hash_of s name there c made.1.0 a made.0 made.1.1, more.1.0),
        more.1.1,
        more.1.2,
        more.1.3
            ∙ ap (λ ms. ms ++ out) (append-nil s.messages),
      ),
      more.2,
    )

pub all_are_saved : AllAreSaved
all_are_saved hash_of s name calls answers mid new out there made sent =
    let it = all_wrote hash_of s name calls answers mid new out there made sent in
    (it.0, it.1.0, it.1.1, it.1.2, it.1.3)

pub all_come_back : AllComeBack
all_come_back hash_of s name calls answers mid new out strings back there saved made sent kept rebuilt = elim kept [
  | inl old ↦ (
      let c = crashed hash_of s name there in
      (c.0, inl (c.0, c.1, refl), c.2 ∙ saved ∙ one_rebuilt strings (restarts (s.replica name)) back old rebuilt))
  | inr now ↦ (
      let w = all_wrote hash_of s name calls answers mid new out there made sent in
      let c = crashed hash_of w.0 name (ap (λ ns. is_among ns name) w.2 ∙ there) in (
        c.0,
        inr (goes_on hash_of (all_written name calls answers (length out)) (Crashes name ∷ []) s w.0 c.0 w.1.0 (c.0, c.1, refl)),
        c.2 ∙ ap restarts w.1.2 ∙ one_rebuilt strings (restarts new) back now rebuilt,
      ))
]

-- Events that happened, and what is told of them: over plain variables.
use Rattle.std.proofs.Common.{◌≡◌, ◌≢◌, ◌⊎◌, inl, inr, ℕ, ◌+◌, ◌-◌, ◌<◌, ◌≤◌, List, [], ◌∷◌, ◌++◌, length, map, drop, true, refl, sym, ap, subst, ◌∙◌, arith}
use Rattle.std.proofs.Common.{Result, Ok, Err, IfOk, IsOkUnless}
use Rattle.std.proofs.lemmas.List.{map-append}
use Rattle.std.specs.declared.vec.Vec.{Vec}
use Rattle.dots.specs.declared.refusal.Refusal.{Refusal}
use Rattle.dots.specs.declared.refusal.Refusal.TheVariants.{OutOfMemory, TooLong, ReadOnly, NumbersSpent, SessionsFull, NotAMessage, NoPlace, NameTaken}
use Rattle.dots.specs.declared.refusal.Refusal.TheVariants.{UnknownReplica, UnknownMessage, BadLine, Input, Output}
use Rattle.dots.specs.Refusal.{number_of}
use Rattle.hash_path.specs.Fnv1a.{fnv1a}
use Rattle.std.specs.Prelude.{codes}
use Rattle.replica_model.specs.Crashing.{Occurrence}
use Rattle.replica_model.specs.Happened.{Happened, events_in}
use Rattle.replica_model.specs.Step.{Answer}
use Rattle.replica_model.specs.World.{World, Event, is_node, nothing, RefusesEvent, Runs}
use Rattle.replica_model.proofs.Deciding.{goes_on}
use Rattle.replica_world.specs.Refused.{IsRefusedIn, IsRefusedAt}
use Rattle.replica_world.specs.Accepting.{IsTold}
use Rattle.replica_world.specs.Held.{Held, events_of, happened_in, after, occurrence}
use Rattle.replica_world.proofs.Crashed.{happened_after}
use Rattle.trace_world.specs.Does.{Does, In}
use Rattle.trace_world.specs.Outcome.{Done, Refused, IsEvent, at_replica}
use Rattle.trace_world.specs.Told.{event_text, happened_text}

-- a refusal is want of memory, or it is not
apart : (refusal : Refusal) → 1 < number_of refusal → refusal ≢ OutOfMemory
apart refusal above is = let e : number_of refusal ≡ 1 = ap number_of is in omega (arith, e, above)

pub is_memory : (refusal : Refusal) → (refusal ≡ OutOfMemory) ⊎ (refusal ≢ OutOfMemory)
is_memory OutOfMemory = inl refl
is_memory TooLong = let above : 1 < 2 = omega arith in inr (apart TooLong above)
is_memory ReadOnly = let above : 1 < 3 = omega arith in inr (apart ReadOnly above)
is_memory NumbersSpent = let above : 1 < 4 = omega arith in inr (apart NumbersSpent above)
is_memory SessionsFull = let above : 1 < 5 = omega arith in inr (apart SessionsFull above)
is_memory NotAMessage = let above : 1 < 6 = omega arith in inr (apart NotAMessage above)
is_memory NoPlace = let above : 1 < 7 = omega arith in inr (apart NoPlace above)
is_memory NameTaken = let above : 1 < 8 = omega arith in inr (apart NameTaken above)
is_memory UnknownReplica = let above : 1 < 9 = omega arith in inr (apart UnknownReplica above)
is_memory UnknownMessage = let above : 1 < 10 = omega arith in inr (apart UnknownMessage above)
is_memory BadLine = let above : 1 < 11 = omega arith in inr (apart BadLine above)
is_memory Input = let above : 1 < 12 = omega arith in inr (apart Input above)
is_memory Output = let above : 1 < 13 = omega arith in inr (apart Output above)

refuses_other : (refusal : Refusal) (w : World) (e : Event) → refusal ≢ OutOfMemory → IsRefusedIn w e refusal → RefusesEvent w e refusal
refuses_other refusal w e other (inl (memory, _)) = absurd (other memory)
refuses_other refusal w e other (inr is) = is

module _ (old new : List Held) (e : Event) where
  module _ (answer : Answer) (sent first end : ℕ) (counted : end ≡ first + sent)
      (told : (w : World) → Runs fnv1a nothing (events_of old) w → IsTold fnv1a w e answer first end) where
    -- what occurs
    abbrev x : Occurrence
    x = occurrence (record { event = e; answer = answer; sent = sent })

    -- the event is told as its answer and the messages that it made say
    told_is : (text : List ℕ) → new ≡ after old (occurrence (record { event = e; answer = answer; sent = sent }))
        → ((v : World) → Runs fnv1a nothing (events_of new) v → 1 ≤ first → end ≡ length v.messages + 1
        → text ≡ event_text e answer first (drop (first - 1) v.messages))
        → In old (λ w. IsEvent fnv1a w e) (Done text (occurrence (record { event = e; answer = answer; sent = sent }) ∷ []))
    told_is text is says w runs =
        let t = told w runs in
        let grown : events_of new ≡ events_of old ++ e ∷ [] =
        ap events_of is ∙ ap events_in (happened_after old (record { event = e; answer = answer; sent = sent }))
        ∙ map-append (λ (h : Happened). h.event) (happened_in old) (record { event = e; answer = answer; sent = sent } ∷ []) in
        let runs_new : Runs fnv1a nothing (events_of new) t.after =
        subst (λ es. Runs fnv1a nothing es t.after) (sym grown) (goes_on fnv1a (events_of old) w t.after e answer runs t.happens) in
        let begins : first ≡ length w.messages + 1 = t.begins in
        let stops : end ≡ length t.after.messages + 1 = t.stops in
        let from : first - 1 ≡ length w.messages = omega (arith, begins) in
        let more : sent ≡ length t.after.messages - length w.messages = omega (arith, begins, stops, counted) in
        let said : text ≡ event_text e answer first (drop (first - 1) t.after.messages) = says t.after runs_new (omega (arith, begins)) t.stops in
        let same : text ≡ happened_text e answer w t.after = said ∙ (λ i. event_text e answer (begins i) (drop (from i) t.after.messages)) in
        inl (answer, t.after, t.happens, (λ i. Done (same i) (occurrence (record { event = e; answer = answer; sent = more i }) ∷ [])))

    pub event_done : {A : Type 0} (r : Result (Vec ℕ A) Refusal) → new ≡ after old (occurrence (record { event = e; answer = answer; sent = sent }))
        → IfOk r (λ text. (v : World) → Runs fnv1a nothing (events_of new) v → 1 ≤ first → end ≡ length v.messages + 1
        → text.items ≡ event_text e answer first (drop (first - 1) v.messages))
        → IsOkUnless r OutOfMemory → Does (In old (λ w. IsEvent fnv1a w e)) old new r
    event_done (Ok text) is says err = (x ∷ [], told_is text.items is says, is)
    event_done (Err refusal) is says err = inl err

  -- a refused event
  pub event_refused : (refusal : Refusal) → new ≡ old → ((w : World) → Runs fnv1a nothing (events_of old) w → IsRefusedIn w e refusal)
      → Does {A = ℕ} (In old (λ w. IsEvent fnv1a w e)) old new (Err refusal)
  event_refused refusal same refuses = by (is_memory refusal)
    where
      by : (refusal ≡ OutOfMemory) ⊎ (refusal ≢ OutOfMemory) → Does {A = ℕ} (In old (λ w. IsEvent fnv1a w e)) old new (Err refusal)
      by (inl memory) = inl memory
      by (inr other) = inr ((λ w runs. inr (refusal, refuses_other refusal w e other (refuses w runs), refl)), same)

-- a replica is saved, or crashes
module _ (old new : List Held) (name : ℕ) (x : Occurrence) where
  pub occurs_done : {A : Type 0} (text : Vec ℕ A) → new ≡ after old x → ((w : World) → Runs fnv1a nothing (events_of old) w → is_node w name ≡ true)
      → text.items ≡ codes "ok"
      → Does (In old (λ w. at_replica w name (λ o. o ≡ Done (codes "ok") (x ∷ [])))) old new (Ok text)
  occurs_done text is there said = (x ∷ [], (λ w runs. inr (there w runs, ap (λ t. Done t (x ∷ [])) said)), is)

  pub occurs_refused : (refusal : Refusal) → new ≡ old → IsRefusedAt fnv1a (events_of old) name refusal
      → Does {A = ℕ} (In old (λ w. at_replica w name (λ o. o ≡ Done (codes "ok") (x ∷ [])))) old new (Err refusal)
  occurs_refused refusal same (inl (unknown, absent)) = inr ((λ w runs. inl (absent w runs, ap Refused unknown)), same)
  occurs_refused refusal same (inr (memory, there)) = inl memory

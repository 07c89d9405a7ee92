-- Events decide the world, and a list of events goes on by one.
use Rattle.std.proofs.Common.{◌≡◌, inl, inr, ℕ, List, [], ◌∷◌, ◌++◌, Option, Some, None, refl, sym, ap, ◌∙◌, subst}
use Rattle.std.proofs.lemmas.Bool.{false≢true}
use Rattle.replica_model.specs.Mail.{Mail}
use Rattle.replica_model.specs.Replica.{Replica}
use Rattle.replica_model.specs.Delivery.{Outcome}
use Rattle.replica_model.specs.Step.{Do, Take, Answer, Came, IsStep}
use Rattle.replica_model.specs.World.{World, Event, Node, At, Deliver, Message, message_at, nothing, calls, takes, goes, Happens, Runs}
use Rattle.replica_model.specs.Laws.{EventsAreOne, WorldsAreOne, RefusedDoesNotHappen, RunsGoOn}
use Rattle.replica_model.proofs.One.{steps_one, refused_none}

-- what comes of a message that is delivered
Comes : (List ℕ → ℕ) → World → ℕ → Answer → World → Message → Type 0
Comes hash_of w name answer v m =
    (new : Replica) × (outcome : Outcome) × (out : List Mail) × (answer ≡ Came outcome) × IsStep hash_of (w.replica name) (Take m.mail) new answer out
    × (v ≡ goes name new out [] (takes name (w.replica name) m.mail m.of outcome w))

the : Message → Option Message → Message
the m None = m
the m (Some n) = n

outcome_of : Outcome → Answer → Outcome
outcome_of o (Came x) = x
outcome_of o Rattle.replica_model.specs.Step.Nothing = o
outcome_of o (Rattle.replica_model.specs.Step.Made d) = o
outcome_of o (Rattle.replica_model.specs.Step.Counted n) = o
outcome_of o (Rattle.replica_model.specs.Step.Numbered n) = o
outcome_of o (Rattle.replica_model.specs.Step.Closed b) = o

pub came_one : (o p : Outcome) → Came o ≡ Came p → o ≡ p
unfolding outcome_of
came_one o p e = ap (outcome_of o) e

comes_one : (hash_of : List ℕ → ℕ) (w v v' : World) (name : ℕ) (answer answer' : Answer) (m : Message) → Comes hash_of w name answer v m
    → Comes hash_of w name answer' v' m → (answer ≡ answer') × (v ≡ v')
unfolding Comes outcome_of
comes_one hash_of w v v' name answer answer' m (new, outcome, out, a, step, e) (new', outcome', out', a', step', e') =
    let one = steps_one hash_of (w.replica name) new new' (Take m.mail) answer answer' out out' step step' in
    let same : outcome ≡ outcome' = ap (outcome_of outcome) (sym a ∙ one.answers ∙ a') in (
      one.answers,
      e ∙ (λ i. goes name (one.replica i) (one.sent i) [] (takes name (w.replica name) m.mail m.of (same i) w)) ∙ sym e',
    )

pub events_one : EventsAreOne
unfolding Comes the
events_one hash_of w v v' (Node name) answer answer' (new, a, e) (new', a', e') = (a ∙ sym a', e ∙ sym e')
events_one hash_of w v v' (At name c) answer answer' (there, peer, (new, out, step, e)) (there', peer', (new', out', step', e')) =
    let one = steps_one hash_of (w.replica name) new new' (Do c) answer answer' out out' step step' in (
      one.answers,
      e ∙ (λ i. goes name (one.replica i) (one.sent i) (w.outgoing name) (calls name c w)) ∙ sym e',
    )
events_one hash_of w v v' (Deliver number name) answer answer' (there, (m, is, comes)) (there', (m', is', comes')) =
    let same : m' ≡ m = ap (the m) (sym is' ∙ is) in
    comes_one hash_of w v v' name answer answer' m comes (subst (Comes hash_of w name answer' v') same comes')

runs_one : (hash_of : List ℕ → ℕ) (events : List Event) (u w v : World) → Runs hash_of u events w → Runs hash_of u events v → w ≡ v
runs_one hash_of [] u w v e f = e ∙ sym f
runs_one hash_of (x ∷ events) u w v (answer, t, step, rest) (answer', t', step', rest') =
    let same = (events_one hash_of u t t' x answer answer' step step').1 in
    runs_one hash_of events t w v rest (subst (λ s. Runs hash_of s events v) (sym same) rest')

pub worlds_one : WorldsAreOne
worlds_one hash_of events w v = runs_one hash_of events nothing w v

no_message : (o : Option Message) (m : Message) → o ≡ None → o ≡ Some m → ⊥
no_message o m e f = let apart : None ≡ Some m = sym e ∙ f in absurd cc

pub refused_not : RefusedDoesNotHappen
refused_not hash_of w v (Node name) answer refusal (there, r) (new, a, e) = false≢true (sym new ∙ there)
refused_not hash_of w v (At name c) answer refusal (inl (none, r)) (there, peer, rest) = false≢true (sym none ∙ there)
refused_not hash_of w v (At name c) answer refusal (inr (here, inl (none, r))) (there, peer, rest) = false≢true (sym none ∙ peer)
refused_not hash_of w v (At name c) answer refusal (inr (here, inr (is, refused))) (there, peer, (new, out, step, e)) =
    refused_none hash_of (w.replica name) new c answer out refusal refused step
refused_not hash_of w v (Deliver number name) answer refusal (inl (none, r)) (there, rest) = false≢true (sym none ∙ there)
refused_not hash_of w v (Deliver number name) answer refusal (inr (here, none, r)) (there, (m, is, rest)) = no_message (message_at w.messages number) m none is

runs_on : (hash_of : List ℕ → ℕ) (events : List Event) (u w v : World) (e : Event) (answer : Answer) → Runs hash_of u events w → Happens hash_of w e answer v
    → Runs hash_of u (events ++ e ∷ []) v
runs_on hash_of [] u w v e answer same step = (answer, v, subst (λ s. Happens hash_of s e answer v) same step, refl)
runs_on hash_of (x ∷ events) u w v e answer (a, t, first, rest) step = (a, t, first, runs_on hash_of events t w v e answer rest step)

pub goes_on : RunsGoOn
goes_on hash_of events w v e answer = runs_on hash_of events nothing w v e answer

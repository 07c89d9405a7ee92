-- A replica that is not there has seen nothing.
use Rattle.std.proofs.Common.{◌≡◌, ◌≢◌, ℕ, ◌==◌, ◌||◌, Bool, true, false, List, [], ◌∷◌, ◌++◌, refl, sym, ap, ◌∙◌, arith}
use Rattle.std.proofs.lemmas.Bool.Decides.{nat_tests}
use Rattle.op_model.specs.World.{is_among}
use Rattle.replica_model.specs.Laws.{AbsentHaveSeenNothing, replica_of}
use Rattle.replica_model.specs.Step.{Answer}
use Rattle.replica_model.specs.World.{World, Event, Node, At, Deliver, is_node, nothing, Happens, Runs}
use Rattle.replica_model.proofs.Leaving.{leaves}

clash : true ≡ false → ⊥
clash e = absurd cc

left_false : (a b : Bool) → (a || b) ≡ false → a ≡ false
left_false true b e = e
left_false false b e = refl

right_false : (a b : Bool) → (a || b) ≡ false → b ≡ false
right_false true b e = absurd (clash e)
right_false false b e = e

-- of two lists of names
front_out : (names more : List ℕ) (name : ℕ) → is_among (names ++ more) name ≡ false → is_among names name ≡ false
front_out [] more name out = refl
front_out (n ∷ names) more name out = by (n == name) (left_false (n == name) (is_among (names ++ more) name) out)
    (front_out names more name (right_false (n == name) (is_among (names ++ more) name) out))
  where
    by : (b : Bool) → b ≡ false → is_among names name ≡ false → (b || is_among names name) ≡ false
    by true is rest = absurd (clash is)
    by false is rest = rest

last_in : (names : List ℕ) (name : ℕ) → is_among (names ++ name ∷ []) name ≡ true
last_in [] name = let same : (name == name) ≡ true = grind (arith, nat_tests) in ap (λ b. b || false) same
last_in (n ∷ names) name = by (n == name) (last_in names name)
  where
    by : (b : Bool) → is_among (names ++ name ∷ []) name ≡ true → (b || is_among (names ++ name ∷ []) name) ≡ true
    by true rest = refl
    by false rest = rest

module _ (hash_of : List ℕ → ℕ) where
  abbrev SawNothing : World → Type 0
  SawNothing w = (name : ℕ) → is_node w name ≡ false → (w.seen name ≡ []) × (w.outgoing name ≡ [])

  -- the replica at which an event happened is there afterwards
  there_after : (w v : World) (e : Event) (answer : Answer) → Happens hash_of w e answer v → is_node v (replica_of e) ≡ false → ⊥
  there_after w v (Node name) answer (free, nothing_is, is) out =
      clash (sym (last_in w.nodes name) ∙ sym (ap (λ (x : World). is_among x.nodes name) is) ∙ out)
  there_after w v (At name c) answer happens out = was_there happens.0 (leaves hash_of w v (At name c) answer happens).nodes out
    where
      was_there : is_among w.nodes name ≡ true → (more : List ℕ) × (v.nodes ≡ w.nodes ++ more) → is_among v.nodes name ≡ false → ⊥
      was_there is (more, grown) gone = clash (sym is ∙ front_out w.nodes more name (sym (ap (λ ns. is_among ns name) grown) ∙ gone))
  there_after w v (Deliver number name) answer happens out = was_there happens.0 (leaves hash_of w v (Deliver number name) answer happens).nodes out
    where
      was_there : is_among w.nodes name ≡ true → (more : List ℕ) × (v.nodes ≡ w.nodes ++ more) → is_among v.nodes name ≡ false → ⊥
      was_there is (more, grown) gone = clash (sym is ∙ front_out w.nodes more name (sym (ap (λ ns. is_among ns name) grown) ∙ gone))

  after_event : (w v : World) (e : Event) (answer : Answer) → Happens hash_of w e answer v → SawNothing w → SawNothing v
  after_event w v e answer happens before name out =
      let left = leaves hash_of w v e answer happens in
      let apart : name ≢ replica_of e = λ same. there_after w v e answer happens (sym (ap (is_node v) same) ∙ out) in
      let was = before name (front_out w.nodes left.nodes.0 name (sym (ap (λ ns. is_among ns name) left.nodes.1) ∙ out)) in
      (left.seen name apart ∙ was.0, left.outgoing name apart ∙ was.1)

  after_events : (events : List Event) (w v : World) → Runs hash_of w events v → SawNothing w → SawNothing v
  after_events [] w v is before = λ name out. let was = before name (sym (ap (λ (x : World). is_node x name) is) ∙ out) in
      (ap (λ (x : World). x.seen name) is ∙ was.0, ap (λ (x : World). x.outgoing name) is ∙ was.1)
  after_events (e ∷ events) w v (answer, u, happens, runs) before = after_events events u v runs (after_event w u e answer happens before)

pub absent_saw_nothing : AbsentHaveSeenNothing
absent_saw_nothing hash_of events w runs = after_events hash_of events nothing w runs (λ name out. (refl, refl))

-- A step decides the new replica, the answer and what is sent; and a call that is refused makes none.
use Rattle.std.proofs.Common.{◌≡◌, inl, inr, ℕ, ◌^◌, ◌<◌, ◌≤◌, List, [], ◌∷◌, Option, Some, None, sym, ap, ◌∙◌, subst, arith}
use Rattle.dots.specs.declared.dot.Dot.{Dot}
use Rattle.op_model.specs.Made.{erasure}
use Rattle.op_model.specs.Meaning.{state}
use Rattle.op_model.specs.Operation.{Wrote, has}
use Rattle.op_model.specs.State.{Same}
use Rattle.op_model.proofs.Making.{IsNext-one, write-same, erasure-same}
use Rattle.op_model.proofs.SameSets.{both_ways}
use Rattle.prefix_digest.proofs.MapsOf.{maps_one}
use Rattle.replica_model.specs.Mail.{Mail}
use Rattle.replica_model.specs.Replica.{Replica, Open, open_numbered, makes, opens}
use Rattle.replica_model.specs.Delivery.{Turn, turn, delivered}
use Rattle.replica_model.specs.Step.{Call, Put, Remove, RemoveField, Clear, Flush, Ask, Retry, Abandon, Restart, Do, Take, Answer, Made, Counted, Came, Removes}
use Rattle.replica_model.specs.Step.{Abandons, IsCall}
use Rattle.replica_model.specs.Laws.{IsOneTurn, StepsAreOne, RefusedMakesNone}
use Rattle.replica_model.proofs.States.{same_is, counts_one}

removes_one : (P : Dot → Type 0) (old new new' : Replica) (answer answer' : Answer) (out out' : List Mail) → Removes P old new answer out
    → Removes P old new' answer' out' → IsOneTurn new new' answer answer' out out'
removes_one P old new new' answer answer' out out' (over, just, n, (c, counts, a), o) (over', just', n', (c', counts', a'), o') =
    let dots : (dot : Dot) → has over dot ≡ has over' dot = λ dot. both_ways (has over dot) (has over' dot) (λ h. (just' dot).1 ((just dot).0 h))
    (λ h. (just dot).1 ((just' dot).0 h)) in
    record {
      replica = n ∙ ap (makes old) (same_is (state (erasure over)) (state (erasure over')) (erasure-same over over' dots)) ∙ sym n';
      answers = a ∙ ap Counted (counts_one P c c' counts counts') ∙ sym a';
      sent = o ∙ sym o';
    }

abandons_one : (old : Replica) (o : Option Open) (new new' : Replica) (answer answer' : Answer) (out out' : List Mail) → Abandons old o new answer
    → Abandons old o new' answer' → out ≡ out' → IsOneTurn new new' answer answer' out out'
abandons_one old None new new' answer answer' out out' (n, a) (n', a') s = record { replica = n ∙ sym n'; answers = a ∙ sym a'; sent = s }
abandons_one old (Some o) new new' answer answer' out out' (n, a) (n', a') s = record { replica = n ∙ sym n'; answers = a ∙ sym a'; sent = s }

call_one : (old new new' : Replica) (c : Call) (answer answer' : Answer) (out out' : List Mail) → IsCall old c new answer out → IsCall old c new' answer' out'
    → IsOneTurn new new' answer answer' out out'
call_one old new new' (Put place value) answer answer' out out' (w, put, lt, n, a, o) (w', put', lt', n', a', o') =
    let id : w.id ≡ w'.id = IsNext-one old.name old.live.has w.id w'.id put.id put'.id in
    let same : Same (state (Wrote w ∷ [])) (state (Wrote w' ∷ [])) =
    write-same w w' id (put.same_place ∙ sym put'.same_place) (put.same_value ∙ sym put'.same_value) (λ dot. put.over dot ∙ sym (put'.over dot)) in
    record {
      replica = n ∙ ap (makes old) (same_is (state (Wrote w ∷ [])) (state (Wrote w' ∷ [])) same) ∙ sym n';
      answers = a ∙ ap Made id ∙ sym a';
      sent = o ∙ sym o';
    }
call_one old new new' (Remove key) answer answer' out out' first second = removes_one _ old new new' answer answer' out out' first second
call_one old new new' (RemoveField place) answer answer' out out' first second = removes_one _ old new new' answer answer' out out' first second
call_one old new new' Clear answer answer' out out' first second = removes_one _ old new new' answer answer' out out' first second
call_one old new new' Flush answer answer' out out' (a, inl (none, n, o)) (a', inl (none', n', o')) =
    record { replica = n ∙ sym n'; answers = a ∙ sym a'; sent = o ∙ sym o' }
call_one old new new' Flush answer answer' out out' (a, inl (none, n, o)) (a', inr (some', n', o')) = absurd (some' none)
call_one old new new' Flush answer answer' out out' (a, inr (some, n, o)) (a', inl (none', n', o')) = absurd (some none')
call_one old new new' Flush answer answer' out out' (a, inr (some, n, o)) (a', inr (some', n', o')) =
    record { replica = n ∙ sym n'; answers = a ∙ sym a'; sent = o ∙ sym o' }
call_one old new new' (Ask peer) answer answer' out out' (own, is, few, left, n, a, o) (own', is', few', left', n', a', o') =
    record { replica = n ∙ ap (opens old peer) (maps_one own own' old.live is is') ∙ sym n'; answers = a ∙ sym a'; sent = o ∙ sym o' }
call_one old new new' (Retry number) answer answer' out out' (n, a, o) (n', a', o') = record { replica = n ∙ sym n'; answers = a ∙ sym a'; sent = o ∙ sym o' }
call_one old new new' (Abandon number) answer answer' out out' (abandons, o) (abandons', o') =
    abandons_one old (open_numbered old.sessions number) new new' answer answer' out out' abandons abandons' (o ∙ sym o')
call_one old new new' Restart answer answer' out out' (n, a, o) (n', a', o') = record { replica = n ∙ sym n'; answers = a ∙ sym a'; sent = o ∙ sym o' }

pub steps_one : StepsAreOne
steps_one hash_of old new new' (Do c) answer answer' out out' first second = call_one old new new' c answer answer' out out' first second
steps_one hash_of old new new' (Take mail) answer answer' out out' (outcome, a, (own, is, e)) (outcome', a', (own', is', e')) =
    let same : turn new outcome out ≡ turn new' outcome' out' = sym e ∙ ap (λ m. delivered hash_of m old mail) (maps_one own own' old.live is is') ∙ e' in
    record {
      replica = ap (λ (t : Turn). t.new) same;
      answers = a ∙ ap (λ (t : Turn). Came t.outcome) same ∙ sym a';
      sent = ap (λ (t : Turn). t.replies) same;
    }

number_of_one : (d e : Dot) (most : ℕ) → d ≡ e → most ≤ d.number → e.number < most → ⊥
number_of_one d e most same above below = let both = subst (λ (x : Dot). most ≤ x.number) same above in omega (arith, both, below)

pub refused_none : RefusedMakesNone
refused_none hash_of old new (Put place value) answer out refusal (dot, next, above, r) (w, put, lt, n, a, o) =
    number_of_one dot w.id (2 ^ 64) (IsNext-one old.name old.live.has dot w.id next put.id) above lt
refused_none hash_of old new (Ask peer) answer out refusal (inl (full, r)) (own, is, few, left, n, a, o) = omega (arith, full, few)
refused_none hash_of old new (Ask peer) answer out refusal (inr (some, spent, r)) (own, is, few, left, n, a, o) = omega (arith, spent, left)
refused_none hash_of old new (Remove key) answer out refusal none step = absurd none
refused_none hash_of old new (RemoveField place) answer out refusal none step = absurd none
refused_none hash_of old new Clear answer out refusal none step = absurd none
refused_none hash_of old new Flush answer out refusal none step = absurd none
refused_none hash_of old new (Retry number) answer out refusal none step = absurd none
refused_none hash_of old new (Abandon number) answer out refusal none step = absurd none
refused_none hash_of old new Restart answer out refusal none step = absurd none

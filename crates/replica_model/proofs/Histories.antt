-- The replica after a history is one, and a history goes on by each step.
use Rattle.std.proofs.Common.{ℕ, List, [], ◌∷◌, ◌++◌, refl, sym, ap, ◌∙◌, subst}
use Rattle.replica_model.specs.Mail.{Mail}
use Rattle.replica_model.specs.Replica.{Replica, fresh}
use Rattle.replica_model.specs.Step.{Answer, IsStep}
use Rattle.replica_model.specs.History.{Entry, Runs, HistoriesAreOne, AfterIsOne, HistoryGoesOn}
use Rattle.replica_model.proofs.One.{steps_one}

pub histories_one : HistoriesAreOne
histories_one hash_of r s t [] answers others (a, e) (b, f) = (a ∙ sym b, e ∙ sym f)
histories_one hash_of r s t (x ∷ es) answers others (answer, more, a, (next, out, step, rest)) (answer', more', a', (next', out', step', rest')) =
    let one = steps_one hash_of r next next' x.act answer answer' out out' step step' in
    let further = histories_one hash_of next s t es more more' rest (subst (λ q. Runs hash_of q es more' t) (sym one.replica) rest') in
    (a ∙ (λ i. one.answers i ∷ further.0 i) ∙ sym a', further.1)

pub after_one : AfterIsOne
after_one hash_of name history s t (answers, runs) (others, again) = (histories_one hash_of (fresh name) s t history answers others runs again).1

runs_on : (hash_of : List ℕ → ℕ) (es : List Entry) (q r next : Replica) (answers : List Answer) (e : Entry) (answer : Answer) (out : List Mail)
    → Runs hash_of q es answers r → IsStep hash_of r e.act next answer out → Runs hash_of q (es ++ e ∷ []) (answers ++ answer ∷ []) next
runs_on hash_of [] q r next answers e answer out (a, same) step =
    (answer, [], ap (λ told. told ++ answer ∷ []) a, (next, out, subst (λ p. IsStep hash_of p e.act next answer out) same step, (refl, refl)))
runs_on hash_of (x ∷ es) q r next answers e answer out (first, more, a, (p, sent, now, rest)) step =
    (first, more ++ answer ∷ [], ap (λ told. told ++ answer ∷ []) a, (p, sent, now, runs_on hash_of es p r next more e answer out rest step))

pub history_on : HistoryGoesOn
history_on hash_of name history r next e answer out (answers, runs) step =
    (answers ++ answer ∷ [], runs_on hash_of history (fresh name) r next answers e answer out runs step)

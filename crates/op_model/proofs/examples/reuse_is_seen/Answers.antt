use Rattle.std.proofs.Common.{◌≡◌, [], ◌∷◌, refl, ap}
use Rattle.std.proofs.lemmas.Bool.{true≢false}
use Rattle.op_model.specs.Operation.{Write}
use Rattle.op_model.specs.Place.{plain, same_bytes}
use Rattle.op_model.specs.Examples.{a, b, x, y, dot, removed, overwritten}
use Rattle.op_model.proofs.Members.{at_head, in_tail}
use Rattle.op_model.proofs.Showing.{values-same}
use Rattle.op_model.proofs.examples.reuse_is_seen.Goals as goal

pub returns-clause-two_writes : goal.returns-clause-two_writes
returns-clause-two_writes c = λ r.
    let v : Write = record { id = dot 1 1; place = plain a; value = x; over = [] } in
    let w : Write = record { id = dot 1 1; place = plain b; value = x; over = [] } in
    let same : a ≡ b = ap (λ u. u.place.key) (r.one_write v w (at_head v (w ∷ [])) (in_tail v (w ∷ []) w (at_head w [])) refl) in
    true≢false (ap (same_bytes a) same)

pub returns-clause-itself : goal.returns-clause-itself
returns-clause-itself c = λ r.
    let w : Write = record { id = dot 1 1; place = plain a; value = x; over = dot 1 1 ∷ [] } in
    true≢false (r.not_itself w (at_head w []))

pub returns-clause-other : goal.returns-clause-other
returns-clause-other c = λ same. let e : [] ≡ y ∷ [] = values-same removed overwritten (plain a) same in cc

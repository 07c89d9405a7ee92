-- States that are the same are one, and so many dots as P says are one number.
use Rattle.std.proofs.Common.{◌≡◌, ℕ, List, [], ◌∷◌, refl, sym, ap, ◌∙◌, ◌||◌}
use Rattle.std.specs.Prelude.{◌↔◌, IsTrue}
use Rattle.std.specs.Set.{distinct_count, is_member}
use Rattle.std.specs.Cmp.{IsEquivalence}
use Rattle.std.proofs.lemmas.Map.Made.{length-from_keys}
use Rattle.dots.specs.declared.dot.Dot.{Dot}
use Rattle.dots.specs.Dot.{same_dot}
use Rattle.op_model.specs.Made.{Counts}
use Rattle.op_model.specs.Operation.{has}
use Rattle.op_model.specs.State.{State, Same}
use Rattle.op_model.proofs.Dots.{same_dot-self, same_dot-symm, same_dot-true}
use Rattle.op_model.proofs.SameSets.{both_ways}

pub same_is : {P H : Type 0} (p q : State P H) → Same p q → p ≡ q
same_is p q same = λ i. record { at = λ place dot. same.at place dot i; has = λ dot. same.has dot i }

pub is_same : {P H : Type 0} (p q : State P H) → p ≡ q → Same p q
is_same p q e = record { at = λ place dot. ap (λ r. r.at place dot) e; has = λ dot. ap (λ r. r.has dot) e }

-- ---- so many dots

same_dot_equivalence : IsEquivalence same_dot
same_dot_equivalence = record {
  refl = same_dot-self;
  symm = same_dot-symm;
  congr = λ x y z h. ap (λ d. same_dot d z) (same_dot-true x y h);
}

has-is_member : (ds : List Dot) (dot : Dot) → has ds dot ≡ is_member same_dot ds dot
has-is_member [] dot = refl
has-is_member (d ∷ ds) dot = λ i. same_dot-symm d dot i || has-is_member ds dot i

pub counted : (P : Dot → Type 0) (ds : List Dot) (n : ℕ) → Counts P n → ((dot : Dot) → IsTrue (has ds dot) ↔ P dot) → n ≡ distinct_count same_dot ds
counted P ds n c all =
    c.number
    ∙ length-from_keys same_dot_equivalence c.dots ds c.apart
    (λ q. sym (has-is_member c.dots q) ∙ both_ways (has c.dots q) (has ds q) (λ h. (all q).1 ((c.just q).0 h)) (λ h. (c.just q).1 ((all q).0 h))
    ∙ has-is_member ds q)

pub counts_one : (P : Dot → Type 0) (n m : ℕ) → Counts P n → Counts P m → n ≡ m
counts_one P n m c d = counted P d.dots n c d.just ∙ sym (counted P d.dots m d d.just)

-- Dots, and lists of dots by their test `has`.
use Rattle.std.proofs.Common.{◌≡◌, List, [], ◌∷◌, ◌++◌, refl, sym, ap, ◌∙◌, ◌⊎◌, inl, inr, true, false, ◌||◌, eqb-true, eq-eqb}
use Rattle.std.specs.Prelude.{Contains, ◌==◌}
use Rattle.std.proofs.lemmas.Bool.{and_parts, and_from, or_cases, or_left, or_right, false≢true, cases_Bool}
use Rattle.dots.specs.declared.dot.Dot.{Dot}
use Rattle.dots.specs.Dot.{same_dot}
use Rattle.op_model.specs.Operation.{has}
use Rattle.op_model.proofs.Joins.{or_assoc}
use Rattle.op_model.proofs.Members.{nothing_in, at_head, in_tail, head_or_tail, at_same}

pub same_dot-true : (d e : Dot) → same_dot d e ≡ true → d ≡ e
same_dot-true d e h =
    let parts = and_parts (d.name == e.name) (d.number == e.number) h in
    let name : d.name ≡ e.name = eqb-true d.name e.name parts.0 in
    let number : d.number ≡ e.number = eqb-true d.number e.number parts.1 in
    λ i. record { name = name i; number = number i }

pub same_dot-self : (d : Dot) → same_dot d d ≡ true
same_dot-self d = and_from (d.name == d.name) (d.number == d.number) (eq-eqb d.name d.name refl) (eq-eqb d.number d.number refl)

pub same_dot-symm : (d e : Dot) → same_dot d e ≡ same_dot e d
same_dot-symm d e = by (cases_Bool (same_dot d e)) (cases_Bool (same_dot e d))
  where
    by : (same_dot d e ≡ true) ⊎ (same_dot d e ≡ false) → (same_dot e d ≡ true) ⊎ (same_dot e d ≡ false) → same_dot d e ≡ same_dot e d
    by (inl f) g = let same = same_dot-true d e f in λ i. same_dot (same i) (sym same i)
    by (inr f) (inl g) = let same = same_dot-true e d g in λ i. same_dot (sym same i) (same i)
    by (inr f) (inr g) = f ∙ sym g

pub has-append : (ds es : List Dot) (dot : Dot) → has (ds ++ es) dot ≡ (has ds dot || has es dot)
has-append [] es dot = refl
has-append (d ∷ ds) es dot = ap (λ b. same_dot d dot || b) (has-append ds es dot) ∙ sym (or_assoc (same_dot d dot) (has ds dot) (has es dot))

pub in_has : (ds : List Dot) (dot : Dot) → Contains ds dot → has ds dot ≡ true
in_has [] dot h = nothing_in dot h
in_has (d ∷ ds) dot h =
    elim (head_or_tail d ds dot h) [
      | inl e ↦ or_left (same_dot d dot) (has ds dot) (sym (ap (same_dot d) e) ∙ same_dot-self d)
      | inr t ↦ or_right (same_dot d dot) (has ds dot) (in_has ds dot t)
    ]

pub from_has : (ds : List Dot) (dot : Dot) → has ds dot ≡ true → Contains ds dot
from_has [] dot h = absurd (false≢true h)
from_has (d ∷ ds) dot h =
    elim (or_cases (same_dot d dot) (has ds dot) h) [
      | inl e ↦ at_same (d ∷ ds) d dot (same_dot-true d dot e) (at_head d ds)
      | inr t ↦ in_tail d ds dot (from_has ds dot t)
    ]

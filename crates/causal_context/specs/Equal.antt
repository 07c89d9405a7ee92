-- What `==` of two contexts says. Of this project.
use Rattle.std.specs.Prelude.{ℕ, Bool, ◌==◌, ◌&&◌, IsTrue, ◌↔◌}
use Rattle.std.specs.Cmp.{IsEquivalence, nat_eq_equiv, on_equiv, and_equiv}
use Rattle.std.specs.Cmp.Lexicographic.{pointwise, lists_equiv}
use Rattle.dots.specs.Dot.{DotValue, same_dot}
use Rattle.causal_context.specs.Context.{ContextValue, HasSame}
use Rattle.causal_context.specs.Canonical.{IsCanonical}

-- whether two contexts have equal vectors and equal clouds
abbrev pub same_form : ContextValue → ContextValue → Bool
same_form a b = pointwise (λ (p q : ℕ × ℕ). (p.0 == q.0) && (p.1 == q.1)) a.vector b.vector && pointwise same_dot a.cloud b.cloud

-- it is an equivalence, as the equality of each part is
pub same_form_equiv : IsEquivalence same_form
same_form_equiv =
    and_equiv
    (on_equiv (λ (c : ContextValue). c.vector) (lists_equiv
    (and_equiv (on_equiv (λ (p : ℕ × ℕ). p.0) nat_eq_equiv) (on_equiv (λ (p : ℕ × ℕ). p.1) nat_eq_equiv))))
    (on_equiv (λ (c : ContextValue). c.cloud) (lists_equiv (and_equiv (on_equiv (λ (d : DotValue). d.name) nat_eq_equiv)
    (on_equiv (λ (d : DotValue). d.number) nat_eq_equiv))))

-- at canonical forms it decides whether they have the same dots
abbrev pub EqualityIsThatOfSets : Type 0
EqualityIsThatOfSets = (a b : ContextValue) → IsCanonical a → IsCanonical b → IsTrue (same_form a b) ↔ HasSame a b

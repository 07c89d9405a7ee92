use Rattle.std.proofs.Common.{◌≡◌, ℕ, Bool, List, ◌&&◌, sym, ap, subst, ◌∙◌}
use Rattle.std.specs.Prelude.{◌==◌}
use Rattle.std.specs.Cmp.Lexicographic.{pointwise}
use Rattle.dots.specs.Dot.{same_dot}
use Rattle.causal_context.specs.Canonical.{IsCanonical}
use Rattle.causal_context.specs.Equal.{same_form}
use Rattle.causal_context.proofs.Equality.{same_form-equal, same_form-same}
use Rattle.causal_context.proofs.context.ContextPartialEq.eq.Goals as goal
use Rattle.causal_context.proofs.context.ContextPartialEq.eq.Given as given

first_is : (xs ys vs ws : List (ℕ × ℕ)) (b : Bool) → xs ≡ vs → ys ≡ ws → b ≡ pointwise (λ (p q : ℕ × ℕ). (p.0 == q.0) && (p.1 == q.1)) xs ys
    → b ≡ pointwise (λ (p q : ℕ × ℕ). (p.0 == q.0) && (p.1 == q.1)) vs ws
first_is xs ys vs ws b e f h = rw (← e, ← f) h

second_is : (g : given.Over) (c : goal.After-eq-then-eq g) → c.eq-then-eq.result ≡ pointwise same_dot c.self.inside.cloud c.other.inside.cloud
second_is g c = rw (← c.items.ensures.all, ← c.items-then-eq.ensures.all) c.eq-then-eq.ensures

then_form : (g : given.Over) (c : goal.After-eq-then-eq g) → c.eq-then-eq.result ≡ same_form c.args.self.now c.args.other.now
then_form g c =
    let clouds = pointwise same_dot c.self.inside.cloud c.other.inside.cloud in
    second_is g c
    ∙ sym (ap (λ b. b && clouds)
    (sym (first_is c.entries.result.now c.entries-2.result.now c.self.inside.vector c.other.inside.vector c.eq.result c.entries.ensures.all
    c.entries-2.ensures.all c.eq.ensures) ∙ c.if-eq.true))
    ∙ ap (λ x. same_form x (record { vector = c.other.inside.vector; cloud = c.other.inside.cloud })) c.self.view_is
    ∙ ap (λ x. same_form c.args.self.now x) c.other.view_is

else_form : (g : given.Over) (c : goal.Else-eq g) → c.eq.result ≡ same_form c.args.self.now c.args.other.now
else_form g c =
    let clouds = pointwise same_dot c.self.inside.cloud c.other.inside.cloud in
    c.if-eq.false
    ∙ sym (ap (λ b. b && clouds)
    (sym (first_is c.entries.result.now c.entries-2.result.now c.self.inside.vector c.other.inside.vector c.eq.result c.entries.ensures.all
    c.entries-2.ensures.all c.eq.ensures) ∙ c.if-eq.false))
    ∙ ap (λ x. same_form x (record { vector = c.other.inside.vector; cloud = c.other.inside.cloud })) c.self.view_is
    ∙ ap (λ x. same_form c.args.self.now x) c.other.view_is

pub returns-then-eq-clause-same : goal.returns-then-eq-clause-same
returns-then-eq-clause-same g c =
    same_form-same c.args.self.now c.args.other.now c.eq-then-eq.result (subst IsCanonical c.self.view_is c.self.invariant)
    (subst IsCanonical c.other.view_is c.other.invariant) (then_form g c)

pub returns-then-eq-clause-equal : goal.returns-then-eq-clause-equal
returns-then-eq-clause-equal g c = same_form-equal c.args.self.now c.args.other.now c.eq-then-eq.result (then_form g c)

pub returns-else-eq-clause-same : goal.returns-else-eq-clause-same
returns-else-eq-clause-same g c =
    same_form-same c.args.self.now c.args.other.now c.eq.result (subst IsCanonical c.self.view_is c.self.invariant)
    (subst IsCanonical c.other.view_is c.other.invariant) (else_form g c)

pub returns-else-eq-clause-equal : goal.returns-else-eq-clause-equal
returns-else-eq-clause-equal g c = same_form-equal c.args.self.now c.args.other.now c.eq.result (else_form g c)

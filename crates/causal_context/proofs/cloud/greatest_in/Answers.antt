use Rattle.std.proofs.Common.{◌≡◌, ◌∙◌, ℕ, Bool, true, false, not, refl, sym, ap, arith, subst, eqb, eqb-true, eq-eqb}
use Rattle.causal_context.specs.Context.{in_cloud, IsGreatest}
use Rattle.causal_context.proofs.Clouds.{greatest_from_last, greatest_from_other, greatest_from_none}
use Rattle.causal_context.proofs.cloud.greatest_in.Goals as goal

apart : (a b : ℕ) (r : Bool) → r ≡ not (eqb a b) → r ≡ true → a ≡ b → ⊥
apart a b r is t e = let bad : true ≡ false = sym t ∙ is ∙ ap not (eq-eqb a b e) in absurd (cc bad)

same : (a b : ℕ) (t r : Bool) → eqb a b ≡ t → r ≡ not t → r ≡ false → a ≡ b
same a b true r e is f = eqb-true a b e
same a b false r e is f = let bad : true ≡ false = sym is ∙ f in absurd (cc bad)

pub returns-in_default : goal.returns-in_default
returns-in_default g c =
    greatest_from_none c.args.cloud.now c.args.name 18446744073709551615 c.dot_at.result c.dot_at.ensures (λ d h. let b = c.requires d h in omega arith)
    (rw c.in_default.is at c.last_up_to.ensures.none)

pub returns-then-ne : goal.returns-then-ne
returns-then-ne g c =
    greatest_from_other c.args.cloud.now c.args.name 18446744073709551615 c.dot_at.result c.dot_at.ensures (λ d h. let b = c.requires d h in omega arith)
    c.in-Some.dot.now c.in-Some.ensures.last
    (λ e. apart c.name.result c.args.name c.ne.result c.ne.ensures c.if-ne.true (c.name.ensures ∙ e))

pub returns : goal.returns
returns g c =
    subst (IsGreatest c.args.name (in_cloud c.args.cloud.now)) (sym c.number.ensures.value)
    (greatest_from_last c.args.cloud.now c.args.name 18446744073709551615 c.dot_at.result c.dot_at.ensures (λ d h. let b = c.requires d h in omega arith)
    c.in-Some.dot.now c.in-Some.ensures.last
    (sym c.name.ensures ∙ same c.name.result c.args.name (eqb c.name.result c.args.name) c.ne.result refl c.ne.ensures c.if-ne.false))

use Rattle.std.proofs.Common.{◌≡◌, ℕ, ◌+◌, ap, sym, ◌∙◌, arith, subst}
use Rattle.std.proofs.lemmas.Bool.{false_from_ne_true}
use Rattle.dots.specs.Dot.{DotValue}
use Rattle.causal_context.specs.Context.{has, known_up_to, in_cloud}
use Rattle.causal_context.specs.Canonical.{IsCanonical}
use Rattle.causal_context.proofs.Dots.{list_any-dot_cmp}
use Rattle.causal_context.proofs.Known.{known_below, known_above}
use Rattle.causal_context.proofs.context.Context.contains_above.Goals as goal

pub returns-then-number-known_up_to-clause-above : goal.returns-then-number-known_up_to-clause-above
unfolding has
returns-then-number-known_up_to-clause-above g c =
    let entry = known_up_to c.self.inside.vector in
    let at = ap entry c.name.ensures in
    let above : DotValue = record { name = c.args.dot.name; number = c.args.dot.number + 1 } in
    sym (known_below entry (in_cloud c.self.inside.cloud) above (omega arith) (omega (arith, at))) ∙ ap (λ x. has x above) c.self.view_is

pub returns-then-number-eq18446744073709551615-clause-above : goal.returns-then-number-eq18446744073709551615-clause-above
unfolding has
returns-then-number-eq18446744073709551615-clause-above g c =
    let entry = known_up_to c.self.inside.vector in
    let at = ap entry c.name.ensures in
    let above : DotValue = record { name = c.args.dot.name; number = c.args.dot.number + 1 } in
    let not_there = false_from_ne_true (in_cloud c.self.inside.cloud above) (λ h. let l = c.self.invariant.bounded above h in absurd (omega arith)) in
    sym not_there ∙ known_above entry (in_cloud c.self.inside.cloud) above (omega arith) (omega (arith, at)) ∙ ap (λ x. has x above) c.self.view_is

pub returns-clause-above : goal.returns-clause-above
unfolding has
returns-clause-above g c =
    let entry = known_up_to c.self.inside.vector in
    let at = ap entry c.name.ensures in
    let above : DotValue = record { name = c.args.dot.name; number = c.args.dot.number + 1 } in
    let dot_of = λ (name number : ℕ). (let d : DotValue = record { name = name; number = number } in d) in
    let is : c.dot_at.result ≡ above = c.dot_at.ensures ∙ ap (λ n. dot_of n (c.number-3.result + 1)) c.name-2.ensures
    ∙ ap (λ n. dot_of c.args.dot.name (n + 1)) c.number-3.ensures.value in
    c.contains.ensures ∙ list_any-dot_cmp c.dot_at.result c.self.inside.cloud ∙ ap (in_cloud c.self.inside.cloud) is
    ∙ known_above entry (in_cloud c.self.inside.cloud) above (omega arith) (omega (arith, at)) ∙ ap (λ x. has x above) c.self.view_is

pub returns-then-number-known_up_to-clause-canonical : goal.returns-then-number-known_up_to-clause-canonical
returns-then-number-known_up_to-clause-canonical g c = subst IsCanonical c.self.view_is c.self.invariant

pub returns-then-number-eq18446744073709551615-clause-canonical : goal.returns-then-number-eq18446744073709551615-clause-canonical
returns-then-number-eq18446744073709551615-clause-canonical g c = subst IsCanonical c.self.view_is c.self.invariant

pub returns-clause-canonical : goal.returns-clause-canonical
returns-clause-canonical g c = subst IsCanonical c.self.view_is c.self.invariant

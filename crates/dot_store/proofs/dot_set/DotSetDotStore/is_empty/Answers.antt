use Rattle.std.proofs.Common.{sym, subst, ◌∙◌}
use Rattle.std.specs.List.Sorted.{IsStrictlySortedBy}
use Rattle.causal_context.specs.Dots.{dot_cmp}
use Rattle.dot_store.proofs.Dots.{at_dots-at_values}
use Rattle.dot_store.proofs.dot_set.DotSetDotStore.is_empty.Goals as goal

pub returns-clause-nothing : goal.returns-clause-nothing
returns-clause-nothing g c =
    let alike = at_dots-at_values c.self.inside.dots c.args.self.now c.self.view_is in
    (λ t place d. alike place d ∙ c.is_empty.ensures.nothing.0 t place d, λ h. c.is_empty.ensures.nothing.1 (λ place d. sym (alike place d) ∙ h place d))

pub returns-clause-canonical : goal.returns-clause-canonical
returns-clause-canonical g c = subst (IsStrictlySortedBy dot_cmp) c.self.view_is c.is_empty.ensures.canonical

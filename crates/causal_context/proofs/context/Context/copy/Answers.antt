use Rattle.std.proofs.Common.{sym, ap, ◌∙◌}
use Rattle.causal_context.specs.Context.{has}
use Rattle.causal_context.proofs.context.Context.copy.Goals as goal

pub returns-clause-equal : goal.returns-clause-equal
returns-clause-equal g c = (λ i. record { vector = c.in_ok-vector.ensures.ok i; cloud = c.in_ok-cloud.ensures.ok i }) ∙ c.self.view_is

pub returns-clause-ok : goal.returns-clause-ok
returns-clause-ok g c = λ d. ap (λ x. has x d) (sym (returns-clause-equal g c))

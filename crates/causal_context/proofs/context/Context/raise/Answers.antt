use Rattle.std.proofs.Common.{◌+◌, ◌||◌, ap, ◌∙◌}
use Rattle.dots.specs.Dot.{same_dot}
use Rattle.causal_context.specs.Context.{has}
use Rattle.causal_context.proofs.context.Context.raise.Goals as goal

pub raise-requires-clause-last : goal.raise-requires-clause-last
unfolding has
raise-requires-clause-last g c = ap (λ x. has x (record { name = c.args.dot.name; number = c.args.dot.number + 1 })) c.self.view_is ∙ c.requires.last

pub returns : goal.returns
unfolding has
returns g c = λ d. c.raise.ensures.ok d ∙ ap (λ x. same_dot c.args.dot d || has x d) c.self.view_is

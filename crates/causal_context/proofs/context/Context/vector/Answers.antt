use Rattle.std.proofs.Common.{sym, ap, ◌∙◌}
use Rattle.causal_context.specs.Context.{has, is_known}
use Rattle.causal_context.proofs.context.Context.vector.Goals as goal

pub returns-clause-has : goal.returns-clause-has
unfolding has
returns-clause-has g c = λ d. ap (λ v. is_known v c.args.self.now.cloud d) (sym (c.entries.ensures.all ∙ ap (λ x. x.vector) c.self.view_is))

use Rattle.std.proofs.Common.{sym, ap, ◌∙◌}
use Rattle.causal_context.specs.Context.{has, is_known}
use Rattle.causal_context.proofs.context.Context.cloud.Goals as goal

pub returns-clause-has : goal.returns-clause-has
unfolding has
returns-clause-has g c = λ d. ap (λ v. is_known c.args.self.now.vector v d) (sym (c.items.ensures.all ∙ ap (λ x. x.cloud) c.self.view_is))

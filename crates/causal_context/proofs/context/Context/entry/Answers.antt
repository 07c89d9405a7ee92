use Rattle.std.proofs.Common.{ap, ◌∙◌}
use Rattle.causal_context.specs.Context.{known_up_to}
use Rattle.causal_context.proofs.context.Context.entry.Goals as goal

-- src/context.rt
pub returns : goal.returns
returns A c = c.known_up_to.ensures ∙ ap (λ context. known_up_to context.vector c.args.name) c.self.view_is

use Rattle.std.proofs.Common.{◌++◌, ◌∷◌, [], ap, ◌∙◌}
use Rattle.delta_ops.proofs.Groups.{log-pushed}
use Rattle.delta_ops.proofs.outgoing.Outgoing.push.Goals as goal

pub returns-clause-pushed : goal.returns-clause-pushed
returns-clause-pushed g c =
    log-pushed c.self.inside.deltas.items c.push.new.self.items c.in_ok-delta.delta c.in_ok-push.ensures.items
    ∙ ap (λ pairs. pairs ++ c.in_ok-delta.delta.value ∷ []) c.self.view_is
    ∙ ap (λ pair. c.args.self.now ++ pair ∷ []) c.in_ok-delta.ensures.ok

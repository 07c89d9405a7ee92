use Rattle.std.proofs.Common.{◌∙◌}
use Rattle.delta_ops.proofs.outgoing.Outgoing.copy.Goals as goal

-- src/outgoing.rt
pub returns-clause-ok : goal.returns-clause-ok
returns-clause-ok g c = c.in_ok-deltas.ensures.ok ∙ c.self.view_is

use Rattle.std.proofs.Common.{◌∙◌, ◌↔◌, ◌<◌, subst}
use Rattle.std.specs.Prelude.{IsSome}
use Rattle.delta_ops.proofs.Groups.{taken_back}
use Rattle.delta_ops.proofs.outgoing.Outgoing.take_back.Goals as goal

pub returns : goal.returns
returns g c = λ rest pair is.
    taken_back c.self.inside.deltas.items c.pop.new.self.items c.pop.result c.pop.ensures.items
    (subst (λ n. IsSome c.pop.result ↔ (0 < n)) c.self.inside.deltas.ok.0 c.pop.ensures.variant) rest pair (c.self.view_is ∙ is)

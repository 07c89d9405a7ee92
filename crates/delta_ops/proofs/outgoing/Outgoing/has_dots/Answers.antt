use Rattle.delta_ops.proofs.Groups.{knows_first}
use Rattle.delta_ops.proofs.outgoing.Outgoing.has_dots.Goals as goal

pub returns : goal.returns
returns g c = knows_first c.args.self.now c.first_known.result c.is_some.result c.is_some.ensures c.first_known.ensures.some c.first_known.ensures.none

use Rattle.std.proofs.Common.{ap, length}
use Rattle.causal_context.specs.Context.{has}
use Rattle.causal_context.proofs.Forms.{none_from_empty}
use Rattle.causal_context.proofs.context.Context.new.Goals as goal

pub returns : goal.returns
unfolding has
returns g c = none_from_empty c.new.result c.new-2.result (ap length c.new.ensures) (ap length c.new-2.ensures)

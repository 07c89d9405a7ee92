use Rattle.causal_context.proofs.Forms.{one_form}
use Rattle.causal_context.proofs.laws.equal_sets_are_one.Goals as goal

pub returns : goal.returns
returns c = one_form

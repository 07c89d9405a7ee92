use Rattle.causal_context.specs.Context.{has}
use Rattle.causal_context.proofs.Forms.{known-covering}
use Rattle.causal_context.proofs.context.covering.Goals as goal

pub returns-clause-ok : goal.returns-clause-ok
unfolding has
returns-clause-ok g c =
    known-covering c.in_ok-vector.vector c.args.mine.now c.args.yours.now c.new.result c.in_ok-vector.ensures.ok c.new.ensures

use Rattle.causal_context.specs.Context.{has}
use Rattle.dot_store.specs.Stores.{at_values}
use Rattle.delta_ops.proofs.Knowing.{knows_standing}
use Rattle.delta_ops.proofs.mutators.observed_at.Goals as goal

pub returns-clause-ok : goal.returns-clause-ok
returns-clause-ok g c =
    knows_standing has (at_values c.in-Some.standing.now) c.dots.result c.dots.ensures.only c.dots.ensures.all _
    (rw c.store.ensures.value at c.in-Some.ensures.held)

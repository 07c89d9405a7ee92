use Rattle.std.proofs.Common.{subst, ap, ◌∙◌}
use Rattle.causal_join.specs.OrMap.{or_map_state}
use Rattle.delta_ops.specs.Group.{group_state}
use Rattle.delta_ops.specs.Log.{deltas_of}
use Rattle.op_model.specs.State.{Same}
use Rattle.delta_ops.proofs.outgoing.Outgoing.pair.Goals as goal

pub returns-clause-ok : goal.returns-clause-ok
returns-clause-ok g c = subst (λ group. Same (or_map_state c.in_ok-whole.whole) (group_state group)) (ap deltas_of c.deref.ensures.value ∙ c.self.view_is)
    c.in_ok-whole.ensures.ok

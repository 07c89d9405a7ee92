use Rattle.std.proofs.Common.{ap, length, subst, arith}
use Rattle.std.proofs.lemmas.List.{length-map}
use Rattle.causal_join.specs.OrMap.{or_map_state}
use Rattle.delta_ops.specs.Group.{group_state}
use Rattle.delta_ops.specs.Log.{deltas_of}
use Rattle.op_model.specs.State.{Same}
use Rattle.delta_ops.proofs.Groups.{log-settled}
use Rattle.delta_ops.proofs.outgoing.Outgoing.settle.Goals as goal

pub returns-clause-same : goal.returns-clause-same
returns-clause-same g c =
    let log = c.self.inside.deltas.items in
    let whole = c.in_ok-group.group in
    log-settled log c.clear.new.self.items c.push.new.self.items c.in_ok-group-2.group whole c.args.self.now c.self.view_is
    (subst (λ l. Same (or_map_state whole) (group_state (deltas_of l))) c.deref.ensures.value c.in_ok-group.ensures.ok)
    c.in_ok-group-2.ensures.ok c.clear.ensures.items (rw c.unwrap.ensures at c.push.ensures.items)

pub returns-then-len-max-clause-few : goal.returns-then-len-max-clause-few
returns-then-len-max-clause-few g c = omega (
  arith,
  ap length c.self.view_is,
  length-map c.self.inside.deltas.items (λ delta. delta.value),
  c.self.inside.deltas.ok.0,
)

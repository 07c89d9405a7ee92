use Rattle.std.proofs.Common.{Option, subst}
use Rattle.std.specs.Prelude.{IfSome}
use Rattle.causal_join.specs.OrMap.{OrMapValue, or_map_state}
use Rattle.delta_ops.specs.Group.{group_state}
use Rattle.delta_ops.specs.Log.{deltas_of}
use Rattle.delta_ops.proofs.Merged.{merged_first}
use Rattle.op_model.specs.State.{Same}
use Rattle.delta_ops.proofs.merging.merged.Goals as goal

pub returns-clause-ok : goal.returns-clause-ok
returns-clause-ok g c =
    let newer = subst (λ (found : Option OrMapValue). IfSome found (λ whole. Same (or_map_state whole) (group_state (deltas_of c.in-Some.others.now))))
    c.in-Some-2.is c.in_ok-newer.ensures.ok in
    merged_first c.args.deltas.now c.in-Some.others.now c.in-Some.first.now c.deref.result.now c.in-Some-2.newer c.in_ok-whole.field-0
    c.in-Some.ensures.cases.0 c.deref.ensures newer c.in_ok-whole.ensures.ok

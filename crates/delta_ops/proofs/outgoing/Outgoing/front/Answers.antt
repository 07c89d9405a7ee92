use Rattle.std.proofs.Common.{◌≡◌, ◌∙◌, ap, length, arith, refl, subst}
use Rattle.std.specs.Prelude.{IfOk, min}
use Rattle.causal_join.specs.OrMap.{or_map_state}
use Rattle.delta_ops.specs.Group.{group_state}
use Rattle.op_model.specs.State.{Same}
use Rattle.delta_ops.proofs.Groups.{front_is}
use Rattle.delta_ops.proofs.outgoing.Outgoing.front.Goals as goal

pub returns-clause-ok : goal.returns-clause-ok
returns-clause-ok g c =
    let many : c.len.result ≡ length c.self.inside.deltas.items = omega (arith, c.len.ensures, c.self.inside.deltas.ok.0) in
    let least = c.min-number.ensures ∙ ap (min c.args.number) many in
    subst (λ ds. IfOk c.joined.result (λ front. Same (or_map_state front) (group_state ds)))
    (front_is c.self.inside.deltas.items c.deref.result.now c.args.self.now c.min-number.result c.min-number.result c.args.number c.deref.ensures.value
    c.self.view_is least refl) c.joined.ensures.ok

use Rattle.std.proofs.Common.{◌≡◌, false, refl, sym, ap, subst, ◌∙◌}
use Rattle.causal_context.specs.Context.{HasNone, has}
use Rattle.causal_join.specs.OrMap.{or_map_state}
use Rattle.delta_ops.specs.Group.{group_state}
use Rattle.delta_ops.specs.Log.{deltas_of}
use Rattle.op_model.specs.State.{Same}
use Rattle.delta_ops.proofs.outgoing.Outgoing.whole.Goals as goal

-- src/outgoing.rt
pub returns-clause-some : goal.returns-clause-some
returns-clause-some g c = (
  subst (λ group. Same (or_map_state c.in_ok-whole.whole) (group_state group)) (ap deltas_of c.deref.ensures.value ∙ c.self.view_is) c.in_ok-whole.ensures.ok,
  λ none. absurd (cc (c.if-is_empty.ensures.1 (subst HasNone (sym c.context.ensures.value) none))),
)

pub returns-then-is_empty-clause-none : goal.returns-then-is_empty-clause-none
returns-then-is_empty-clause-none g c = λ d.
    let same = subst (λ group. Same (or_map_state c.in_ok-whole.whole) (group_state group)) (ap deltas_of c.deref.ensures.value ∙ c.self.view_is)
    c.in_ok-whole.ensures.ok in
    sym (same.has d) ∙ subst (λ context. has context d ≡ false) c.context.ensures.value (c.if-is_empty.ensures.0 refl d)

use Rattle.std.proofs.Common.{◌≡◌, ◌+◌, ◌-◌, List, false, length, sym, ap, subst, ◌∙◌, arith}
use Rattle.std.proofs.lemmas.List.{take_all, length-map}
use Rattle.causal_context.specs.Context.{HasNone}
use Rattle.causal_join.specs.OrMap.{OrMapValue}
use Rattle.delta_ops.specs.Group.{group_state}
use Rattle.delta_ops.specs.Log.{deltas_of}
use Rattle.dots.specs.Dot.{DotValue}
use Rattle.delta_ops.proofs.Groups.{known_at, none_before}
use Rattle.delta_ops.proofs.outgoing.Outgoing.first_known.Goals as goal

-- src/outgoing.rt
pub returns-then-not-is_empty-clause-some : goal.returns-then-not-is_empty-clause-some
returns-then-not-is_empty-clause-some g c =
    let log = c.deref-delta-items.result.now in
    let same = ap deltas_of c.deref-delta-items.ensures.value ∙ c.self.view_is in
    let known = c.context.ensures.value ∙ ap (λ (pair : OrMapValue). pair.1) c.deref.ensures in (
      omega arith,
      omega (arith, c.loop-delta.invariant.0, c.loop-delta-test.true, ap length same, length-map log (λ delta. delta.value)),
      none_before log c.args.self.now c.loop-delta.delta-index (c.loop-delta.number + 1 - 1) same (omega (arith, c.loop-delta.invariant.0)) c.loop-delta.invariant.1,
      λ none. absurd (cc (
        c.is_empty.ensures.1 (subst HasNone (sym known) (known_at log c.args.self.now c.loop-delta.delta-index c.delta-item.result
            (c.loop-delta.number + 1) same (omega (arith, c.loop-delta.invariant.0)) c.loop-delta-test.true c.delta-item.is none)),
        c.if-not-is_empty.true,
      )),
    )

pub returns-clause-none : goal.returns-clause-none
returns-clause-none g c =
    let all = take_all c.loop-delta.delta-index c.deref-delta-items.result.now c.loop-delta-test.false in
    let same = ap deltas_of all ∙ ap deltas_of c.deref-delta-items.ensures.value ∙ c.self.view_is in
    subst (λ (group : List OrMapValue). (d : DotValue) → (group_state group).has d ≡ false) same c.loop-delta.invariant.1

use Rattle.std.proofs.Common.{◌≡◌, ◌+◌, not, eqb, eqb-true, sym, ap, ◌∙◌, arith}
use Rattle.std.proofs.lemmas.Bool.{false≢true}
use Rattle.causal_context.specs.Context.{known_up_to}
use Rattle.live_map.proofs.OneKey.{next_unknown}
use Rattle.live_map.proofs.one_key.can_raise.Goals as goal
use Rattle.live_map.proofs.one_key.can_raise.Goals.{then-entry-ne0, else-entry-ne0}

pub returns-then-number-entry-clause-fresh : goal.returns-then-number-entry-clause-fresh
returns-then-number-entry-clause-fresh g c =
    let entry = c.entry-entry.ensures ∙ ap (known_up_to c.args.own.now.vector) c.name.ensures in
    let next : c.args.dot.number ≡ known_up_to c.args.own.now.vector c.args.dot.name + 1 = elim c.if-entry-ne0.branch [
      | then-entry-ne0 w ↦
          let below = eqb-true _ c.entry-entry.result (sym w.value-is ∙ c.if-number-entry.true) in
          let number = w.number.ensures.value in
          let from = w.number.ensures.from_one in
          omega (arith, entry, below, number, from)
      | else-entry-ne0 w ↦ absurd (false≢true (sym (ap (λ e. not (eqb e 0)) w.if-entry-ne0.false) ∙ sym w.value-is ∙ c.if-number-entry.true))
    ] in
    λ t. next_unknown c.args.own.now c.args.dot c.contains_above.ensures.canonical next

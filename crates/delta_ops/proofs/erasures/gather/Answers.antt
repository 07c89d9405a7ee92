use Rattle.std.proofs.Common.{◌||◌, map, ap, ◌∙◌}
use Rattle.std.proofs.lemmas.List.{take_all}
use Rattle.op_model.specs.Operation.{has as is_among}
use Rattle.delta_ops.proofs.Erasing.{gathered_more_at}
use Rattle.delta_ops.proofs.Puts.{has-at_values}
use Rattle.delta_ops.proofs.erasures.gather.Goals as goal

pub loop-dot-preserved : goal.loop-dot-preserved
loop-dot-preserved g c =
    gathered_more_at c.args.dots.now.keys c.loop-dot.dots.keys c.insert.new.self.keys c.entries-dot-items.result.now c.loop-dot.dot-index c.loop-dot-item.result
    c.loop-dot-test.true c.loop-dot-item.is c.loop-dot.invariant c.in_ok-insert.ensures.keys

pub returns-clause-ok : goal.returns-clause-ok
returns-clause-ok g c d =
    c.loop-dot.invariant d ∙ ap (λ b. is_among c.args.dots.now.keys d || b)
    (ap (λ entries. is_among (map (λ entry. entry.0) entries) d)
    (take_all c.loop-dot.dot-index c.entries-dot-items.result.now c.loop-dot-test.false ∙ c.entries-dot-items.ensures.rest)
    ∙ has-at_values c.args.standing.now d)

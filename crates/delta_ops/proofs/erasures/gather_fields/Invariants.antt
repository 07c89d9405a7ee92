use Rattle.delta_ops.proofs.Erasing.{Adds, stores_before}
use Rattle.delta_ops.proofs.erasures.gather_fields.Given as goal

abbrev pub invariant-loop-standing : goal.invariant-loop-standing
invariant-loop-standing g l = Adds l.fn.dots.keys l.dots.keys (stores_before l.standing-index l.standing-items)

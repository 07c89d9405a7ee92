use Rattle.std.proofs.Common.{◌≡◌, ◌||◌}
use Rattle.dots.specs.Dot.{DotValue}
use Rattle.op_model.specs.Operation.{has as is_among}
use Rattle.delta_ops.proofs.Erasing.{dots_before}
use Rattle.delta_ops.proofs.erasures.gather.Given as goal

abbrev pub invariant-loop-dot : goal.invariant-loop-dot
invariant-loop-dot g l = (d : DotValue) → is_among l.dots.keys d ≡ (is_among l.fn.dots.keys d || is_among (dots_before l.dot-index l.dot-items) d)

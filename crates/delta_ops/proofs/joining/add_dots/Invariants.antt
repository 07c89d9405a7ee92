use Rattle.std.proofs.Common.{◌≡◌, ◌||◌, take}
use Rattle.causal_context.specs.Context.{has, in_cloud}
use Rattle.dots.specs.Dot.{DotValue}
use Rattle.delta_ops.proofs.joining.add_dots.Given as goal

abbrev pub invariant-loop-dot : goal.invariant-loop-dot
invariant-loop-dot g l = (d : DotValue) → has l.known d ≡ (has l.fn.known d || in_cloud (take l.dot-index l.dots) d)

use Rattle.std.proofs.Common.{◌≡◌, ◌||◌, take}
use Rattle.dots.specs.Dot.{DotValue}
use Rattle.causal_context.specs.Context.{has, in_cloud}
use Rattle.causal_context.proofs.context.Context.add_all.Given as goal

abbrev pub invariant-loop-dot : goal.invariant-loop-dot
invariant-loop-dot g l = (d : DotValue) → has l.self d ≡ (has l.initial.self d || in_cloud (take l.dot-index l.dot-items) d)

use Rattle.std.proofs.Common.{take, ◌<◌, ◌+◌, ◌^◌}
use Rattle.std.specs.Prelude.{IsTrue}
use Rattle.dots.specs.Dot.{DotValue}
use Rattle.causal_context.specs.Context.{known_up_to, in_cloud}
use Rattle.causal_context.proofs.cloud.is_apart.Given as goal

abbrev pub invariant-loop-dot : goal.invariant-loop-dot
invariant-loop-dot g l = (d : DotValue) → IsTrue (in_cloud (take l.dot-index l.dot-items) d) → (known_up_to l.vector d.name + 1 < d.number)
    × (d.number < 2 ^ 64)

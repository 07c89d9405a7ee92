use Rattle.std.proofs.Common.{◌≡◌, map}
use Rattle.dots.specs.Dot.{DotValue}
use Rattle.causal_context.specs.Context.{has}
use Rattle.op_model.specs.Operation.{has as is_among}
use Rattle.delta_ops.proofs.erasures.context_of.Given as goal

abbrev pub invariant-loop-dot : goal.invariant-loop-dot
invariant-loop-dot g l = (d : DotValue) → has l.context d ≡ is_among (map (λ dot. dot.now) l.yielded) d

use Rattle.std.proofs.Common.{take}
use Rattle.causal_context.specs.Canonical.{HasNoZero}
use Rattle.causal_context.proofs.vector.has_no_zero.Given as goal

abbrev pub invariant-loop-number : goal.invariant-loop-number
invariant-loop-number g l = HasNoZero (take l.number-index l.number-items)

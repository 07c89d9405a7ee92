use Rattle.std.proofs.Common.{take}
use Rattle.causal_context.specs.Context.{has, in_cloud}
use Rattle.causal_context.specs.Growth.{IsGrowthAmong}
use Rattle.causal_context.proofs.context.Context.growth_by_cloud.Given as goal

abbrev pub invariant-loop-dot : goal.invariant-loop-dot
invariant-loop-dot g l = IsGrowthAmong (has l.self) (has l.other) (in_cloud (take l.dot-index l.dot-items)) l.growth

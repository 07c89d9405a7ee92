use Rattle.std.proofs.Common.{take, []}
use Rattle.causal_context.specs.Context.{has, is_known}
use Rattle.causal_context.specs.Growth.{IsGrowthAmong}
use Rattle.causal_context.proofs.context.Context.growth_by_vector.Given as goal

abbrev pub invariant-loop-name : goal.invariant-loop-name
invariant-loop-name g l = IsGrowthAmong (has l.self) (has l.other) (is_known (take l.name-index l.name-items) []) l.growth

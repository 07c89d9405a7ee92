use Rattle.std.proofs.Common.{◌≡◌, ℕ, ◌<◌, get_or}
use Rattle.std.specs.Prelude.{IsSome, false}
use Rattle.dots.specs.Dot.{DotValue}
use Rattle.causal_context.specs.Context.{has}
use Rattle.causal_join.specs.OrMap.{or_map_at}
use Rattle.delta_ops.proofs.base.are_unknown_to.Given as goal

abbrev pub invariant-loop-delta : goal.invariant-loop-delta
invariant-loop-delta g l = (k : ℕ) (delta : _) → k < l.delta-index → (place : _) (d : DotValue)
    → IsSome (or_map_at (get_or l.deltas k delta).value.0 place d) → has l.context d ≡ false

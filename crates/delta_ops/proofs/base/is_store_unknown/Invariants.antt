use Rattle.std.proofs.Common.{◌≡◌, ℕ, ◌<◌, get_or}
use Rattle.std.specs.Prelude.{IsSome, false}
use Rattle.dots.specs.Dot.{DotValue}
use Rattle.causal_context.specs.Context.{has}
use Rattle.causal_join.specs.OrMap.{fields_at}
use Rattle.delta_ops.proofs.base.is_store_unknown.Given as goal

abbrev pub invariant-loop-fields : goal.invariant-loop-fields
invariant-loop-fields g l = (k : ℕ) (e : _) → k < l.fields-index → (place : _) (d : DotValue) → IsSome (fields_at (get_or l.fields-items k e).1 place d)
    → has l.context d ≡ false

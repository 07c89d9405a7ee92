use Rattle.std.proofs.Common.{◌≡◌, ℕ, ◌<◌, get_or}
use Rattle.std.specs.Prelude.{IsSome, false}
use Rattle.dots.specs.Dot.{DotValue}
use Rattle.causal_context.specs.Context.{has}
use Rattle.dot_store.specs.Stores.{at_values}
use Rattle.delta_ops.proofs.base.are_fields_unknown.Given as goal

abbrev pub invariant-loop-values : goal.invariant-loop-values
invariant-loop-values g l = (k : ℕ) (e : _) → k < l.values-index → (place : _) (d : DotValue) → IsSome (at_values (get_or l.values-items k e).1 place d)
    → has l.context d ≡ false

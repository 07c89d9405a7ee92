use Rattle.std.proofs.Common.{◌≡◌, ℕ, ◌<◌, get_or}
use Rattle.std.specs.Prelude.{false}
use Rattle.causal_context.specs.Context.{has}
use Rattle.delta_ops.proofs.base.are_values_unknown.Given as goal

abbrev pub invariant-loop-dot : goal.invariant-loop-dot
invariant-loop-dot g l = (k : ℕ) (e : _) → k < l.dot-index → has l.context (get_or l.dot-items k e).0 ≡ false

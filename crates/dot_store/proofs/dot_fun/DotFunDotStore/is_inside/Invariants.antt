use Rattle.std.proofs.Common.{ℕ, ◌<◌, get_or}
use Rattle.std.specs.Prelude.{IsTrue}
use Rattle.causal_context.specs.Context.{has}
use Rattle.dot_store.proofs.dot_fun.DotFunDotStore.is_inside.Given as goal

abbrev pub invariant-loop-dot : goal.invariant-loop-dot
invariant-loop-dot g l = (k : ℕ) (e : _) → k < l.dot-index → IsTrue (has l.context (get_or l.dot-items k e).0)

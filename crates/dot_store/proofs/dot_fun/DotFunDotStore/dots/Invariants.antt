use Rattle.std.proofs.Common.{◌≡◌}
use Rattle.causal_context.specs.Context.{has}
use Rattle.dot_store.specs.Store.{HoldsDot}
use Rattle.dot_store.specs.Stores.{at_values}
use Rattle.dot_store.proofs.Gathered.{Gathered}
use Rattle.dot_store.proofs.dot_fun.DotFunDotStore.dots.Given as goal

abbrev pub invariant-loop-dot : goal.invariant-loop-dot
invariant-loop-dot g l = Gathered (HoldsDot (at_values l.self)) (λ e d. e.0 ≡ d) (has l.initial.dots) (has l.dots) l.dot-items l.dot-index

use Rattle.std.proofs.Common.{ℕ, ◌<◌, get_or}
use Rattle.std.specs.Prelude.{IsTrue, IsSome}
use Rattle.dots.specs.Dot.{DotValue}
use Rattle.causal_context.specs.Context.{has}
use Rattle.dot_store.proofs.dot_map.DotMapDotStore.is_inside.Given as goal

abbrev pub invariant-loop-store : goal.invariant-loop-store
invariant-loop-store g l = (k : ℕ) (e : _) → k < l.store-index → (place : _) (d : DotValue) → IsSome (g.S.DotStore.at (get_or l.store-items k e).1 place d)
    → IsTrue (has l.context d)

use Rattle.std.proofs.Common.{ℕ, ◌<◌, get_or}
use Rattle.dot_store.specs.Store.{HasNothing}
use Rattle.dot_store.proofs.dot_map.are_filled.Given as goal

abbrev pub invariant-loop-store : goal.invariant-loop-store
invariant-loop-store g l = (k : ℕ) (e : _) → k < l.store-index → (HasNothing (g.S.DotStore.at (get_or l.stores k e).1) → ⊥)
    × g.S.DotStore.canonical (get_or l.stores k e).1

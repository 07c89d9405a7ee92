use Rattle.std.proofs.Common.{◌≡◌, ℕ, ◌<◌, get_or, None}
use Rattle.dot_store.proofs.dot_map.DotMapDotStore.contains.Given as goal

abbrev pub invariant-loop-store : goal.invariant-loop-store
invariant-loop-store g l = (k : ℕ) (e : _) → k < l.store-index → (place : _) → g.S.DotStore.at (get_or l.store-items k e).1 place l.dot ≡ None

use Rattle.std.proofs.Common.{◌≡◌, ℕ, ◌<◌, get_or, None}
use Rattle.std.specs.List.{All}
use Rattle.dot_store.proofs.one_key.first_holder.Given as goal

abbrev pub invariant-loop-key : goal.invariant-loop-key
invariant-loop-key g l = (k : ℕ) (e : _) → k < l.key-index → All (λ d. (place : _) → g.S.DotStore.at (get_or l.stores k e).1 place d ≡ None) l.dots

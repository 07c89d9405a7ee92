use Rattle.std.proofs.Common.{◌≡◌, ℕ, ◌<◌, get_or, None}
use Rattle.dot_store.proofs.one_key.holds_any.Given as goal

abbrev pub invariant-loop-dot : goal.invariant-loop-dot
invariant-loop-dot g l = (k : ℕ) (d : _) → k < l.dot-index → (place : _) → g.S.DotStore.at l.store place (get_or l.dots k d) ≡ None

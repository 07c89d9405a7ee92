use Rattle.std.proofs.Common.{◌≡◌, ℕ, ◌<◌, get_or, false, None}
use Rattle.std.specs.List.{All}
use Rattle.std.specs.Ordering.{is_eq}
use Rattle.dot_store.proofs.one_key.is_alone.Given as goal

abbrev pub invariant-loop-other : goal.invariant-loop-other
invariant-loop-other g l = (k : ℕ) (e : _) → k < l.other-index → is_eq (g.K.Ord.cmp l.key (get_or l.stores k e).0) ≡ false
    → All (λ d. (place : _) → g.S.DotStore.at (get_or l.stores k e).1 place d ≡ None) l.dots

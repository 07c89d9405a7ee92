use Rattle.std.proofs.Common.{◌≡◌, ℕ, ◌<◌, List, get_or, false}
use Rattle.std.specs.Prelude.{IsTrue, IsSome}
use Rattle.causal_context.specs.Context.{has}
use Rattle.dots.specs.Dot.{DotValue}
use Rattle.live_map.specs.Index.{names}
use Rattle.live_map.proofs.touching.name_all.Given as goal

abbrev pub invariant-loop-key : goal.invariant-loop-key
invariant-loop-key g l =
    ((k : ℕ) (e : _) → k < l.key-index → (place : _) (d : DotValue) → IsSome (g.S.DotStore.at (get_or l.entries k e).1 place d) → has l.known d ≡ false
    → IsTrue (names l.index d (get_or l.entries k e).0))
    × ((d : DotValue) (q : List ℕ) → IsTrue (names l.fn.index d q) → IsTrue (names l.index d q))

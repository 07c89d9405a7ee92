use Rattle.std.proofs.Common.{◌≡◌, ℕ, ◌<◌, List, get_or, false}
use Rattle.std.specs.Prelude.{IsTrue}
use Rattle.causal_context.specs.Context.{has}
use Rattle.dots.specs.Dot.{DotValue}
use Rattle.live_map.specs.Index.{names}
use Rattle.live_map.proofs.index.Index.add_cloud.Given as goal

abbrev pub invariant-loop-dot : goal.invariant-loop-dot
invariant-loop-dot g l =
    ((k : ℕ) (e : _) → k < l.dot-index → has l.known (get_or l.cloud k e) ≡ false → IsTrue (names l.self (get_or l.cloud k e) l.key))
    × ((d : DotValue) (q : List ℕ) → IsTrue (names l.fn.self d q) → IsTrue (names l.self d q))

use Rattle.std.proofs.Common.{◌≡◌, ℕ, ◌≤◌, ◌<◌, List, get_or, false}
use Rattle.std.specs.Prelude.{IsTrue}
use Rattle.causal_context.specs.Context.{has}
use Rattle.dots.specs.Dot.{DotValue}
use Rattle.live_map.specs.Index.{names}
use Rattle.live_map.proofs.index.Index.add_vector.Given as goal

abbrev pub invariant-loop-name : goal.invariant-loop-name
invariant-loop-name g l =
    ((k : ℕ) (e : _) → k < l.name-index → (d : DotValue) → d.name ≡ (get_or l.vector k e).0 → 1 ≤ d.number → d.number ≤ (get_or l.vector k e).1
    → has l.known d ≡ false → IsTrue (names l.self d l.key))
    × ((d : DotValue) (q : List ℕ) → IsTrue (names l.fn.self d q) → IsTrue (names l.self d q))

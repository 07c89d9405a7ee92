use Rattle.std.proofs.Common.{◌≡◌, ℕ, ◌≤◌, List, false}
use Rattle.std.specs.Prelude.{IsTrue}
use Rattle.causal_context.specs.Context.{has}
use Rattle.dots.specs.Dot.{DotValue}
use Rattle.live_map.specs.Index.{names}
use Rattle.live_map.proofs.index.Index.add_run.Given as goal

abbrev pub invariant-loop-number : goal.invariant-loop-number
invariant-loop-number g l =
    ((d : DotValue) → d.name ≡ l.name → 1 ≤ d.number → d.number ≤ l.number → has l.known d ≡ false → IsTrue (names l.self d l.key))
    × ((d : DotValue) (q : List ℕ) → IsTrue (names l.fn.self d q) → IsTrue (names l.self d q))

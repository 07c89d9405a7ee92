use Rattle.std.proofs.Common.{◌≡◌, ℕ, ◌≤◌, ◌<◌, get_or, false}
use Rattle.std.specs.Prelude.{IsTrue, ◌⊎◌}
use Rattle.causal_context.specs.Context.{has}
use Rattle.dots.specs.Dot.{DotValue}
use Rattle.live_map.proofs.unknown.add_vector.Given as goal

abbrev pub invariant-loop-name : goal.invariant-loop-name
invariant-loop-name g l =
    ((k : ℕ) (e : _) → k < l.name-index → (d : DotValue) → d.name ≡ (get_or l.vector k e).0 → 1 ≤ d.number → d.number ≤ (get_or l.vector k e).1
    → IsTrue (has l.dots d) → has l.known d ≡ false → IsTrue (has l.found d))
    × ((d : DotValue) → IsTrue (has l.fn.found d) → IsTrue (has l.found d))
    × ((d : DotValue) → IsTrue (has l.found d) → IsTrue (has l.fn.found d) ⊎ IsTrue (has l.dots d))

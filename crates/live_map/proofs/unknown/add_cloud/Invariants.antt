use Rattle.std.proofs.Common.{◌≡◌, ℕ, ◌<◌, get_or, false}
use Rattle.std.specs.Prelude.{IsTrue, ◌⊎◌}
use Rattle.causal_context.specs.Context.{has}
use Rattle.dots.specs.Dot.{DotValue}
use Rattle.live_map.proofs.unknown.add_cloud.Given as goal

abbrev pub invariant-loop-dot : goal.invariant-loop-dot
invariant-loop-dot g l =
    ((k : ℕ) (e : _) → k < l.dot-index → IsTrue (has l.dots (get_or l.cloud k e)) → has l.known (get_or l.cloud k e) ≡ false
    → IsTrue (has l.found (get_or l.cloud k e)))
    × ((d : DotValue) → IsTrue (has l.fn.found d) → IsTrue (has l.found d))
    × ((d : DotValue) → IsTrue (has l.found d) → IsTrue (has l.fn.found d) ⊎ IsTrue (has l.dots d))

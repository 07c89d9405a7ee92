use Rattle.std.proofs.Common.{◌≡◌, ◌≤◌, false}
use Rattle.std.specs.Prelude.{IsTrue, ◌⊎◌}
use Rattle.causal_context.specs.Context.{has}
use Rattle.dots.specs.Dot.{DotValue}
use Rattle.live_map.proofs.unknown.add_run.Given as goal

abbrev pub invariant-loop-number : goal.invariant-loop-number
invariant-loop-number g l =
    ((d : DotValue) → d.name ≡ l.name → 1 ≤ d.number → d.number ≤ l.number → IsTrue (has l.dots d) → has l.known d ≡ false → IsTrue (has l.found d))
    × ((d : DotValue) → IsTrue (has l.fn.found d) → IsTrue (has l.found d))
    × ((d : DotValue) → IsTrue (has l.found d) → IsTrue (has l.fn.found d) ⊎ IsTrue (has l.dots d))

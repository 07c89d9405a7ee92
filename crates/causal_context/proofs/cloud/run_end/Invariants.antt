use Rattle.std.proofs.Common.{◌-◌, ◌≤◌, ◌<◌, ℕ}
use Rattle.std.specs.Prelude.{IsTrue}
use Rattle.causal_context.specs.Context.{in_cloud}
use Rattle.causal_context.proofs.cloud.run_end.Given as goal

abbrev pub invariant-loop-end : goal.invariant-loop-end
invariant-loop-end g l = (l.dot.number ≤ l.end) × ((m : ℕ) → l.dot.number < m → m ≤ l.end
    → IsTrue (in_cloud l.cloud (record { name = l.dot.name; number = m })))

abbrev pub decreases-loop-end : goal.decreases-loop-end
decreases-loop-end g l = 18446744073709551615 - l.end

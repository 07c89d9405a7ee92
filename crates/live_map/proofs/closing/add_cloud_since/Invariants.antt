use Rattle.std.proofs.Common.{◌≡◌, ℕ, ◌<◌, List, get_or, false}
use Rattle.std.specs.Prelude.{IsTrue}
use Rattle.causal_context.specs.Context.{has}
use Rattle.live_map.specs.Index.{names, has_key}
use Rattle.live_map.proofs.closing.add_cloud_since.Given as goal

abbrev pub invariant-loop-dot : goal.invariant-loop-dot
invariant-loop-dot g l =
    ((k : ℕ) (e : _) → k < l.dot-index → has l.seen (get_or l.cloud k e) ≡ false → (q : List ℕ) → IsTrue (names l.index (get_or l.cloud k e) q)
    → IsTrue (has_key l.keys q))
    × ((q : List ℕ) → IsTrue (has_key l.fn.keys q) → IsTrue (has_key l.keys q))

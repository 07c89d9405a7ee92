use Rattle.std.proofs.Common.{ℕ, ◌<◌, List, get_or}
use Rattle.std.specs.Prelude.{IsTrue}
use Rattle.causal_context.specs.Context.{has}
use Rattle.live_map.specs.Index.{names, has_key}
use Rattle.live_map.proofs.touching.add_cloud.Given as goal

abbrev pub invariant-loop-dot : goal.invariant-loop-dot
invariant-loop-dot g l =
    ((k : ℕ) (e : _) → k < l.dot-index → IsTrue (has l.own (get_or l.cloud k e)) → (q : List ℕ) → IsTrue (names l.index (get_or l.cloud k e) q)
    → IsTrue (has_key l.touched q))
    × ((q : List ℕ) → IsTrue (has_key l.fn.touched q) → IsTrue (has_key l.touched q))

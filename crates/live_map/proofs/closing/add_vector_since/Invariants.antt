use Rattle.std.proofs.Common.{◌≡◌, ℕ, ◌≤◌, ◌<◌, List, get_or}
use Rattle.std.specs.Prelude.{IsTrue}
use Rattle.causal_context.specs.Context.{known_up_to}
use Rattle.dots.specs.Dot.{DotValue}
use Rattle.live_map.specs.Index.{names, has_key}
use Rattle.live_map.proofs.closing.add_vector_since.Given as goal

abbrev pub invariant-loop-name : goal.invariant-loop-name
invariant-loop-name g l =
    ((k : ℕ) (e : _) → k < l.name-index → (d : DotValue) (q : List ℕ) → d.name ≡ (get_or l.vector k e).0
    → known_up_to l.seen.vector (get_or l.vector k e).0 < d.number → d.number ≤ (get_or l.vector k e).1
    → IsTrue (names l.index d q) → IsTrue (has_key l.keys q))
    × ((q : List ℕ) → IsTrue (has_key l.fn.keys q) → IsTrue (has_key l.keys q))

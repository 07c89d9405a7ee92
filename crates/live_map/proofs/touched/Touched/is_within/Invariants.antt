use Rattle.std.proofs.Common.{ℕ, ◌<◌, get_or}
use Rattle.std.specs.Prelude.{IsTrue}
use Rattle.live_map.specs.Index.{has_key}
use Rattle.live_map.proofs.touched.Touched.is_within.Given as goal

abbrev pub invariant-loop-key : goal.invariant-loop-key
invariant-loop-key g l = (k : ℕ) (e : _) → k < l.key-index → IsTrue (has_key l.keys.keys (get_or l.key-items k e))

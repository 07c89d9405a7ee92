use Rattle.std.proofs.Common.{ℕ, ◌<◌, get_or}
use Rattle.std.specs.Prelude.{IsTrue}
use Rattle.live_map.specs.Index.{has_key}
use Rattle.live_map.proofs.touching.add_keys.Given as goal

abbrev pub invariant-loop-key : goal.invariant-loop-key
invariant-loop-key g l = (k : ℕ) (e : _) → k < l.key-index → IsTrue (has_key l.touched (get_or l.entries k e).0)

use Rattle.std.proofs.Common.{ℕ, ◌<◌, get_or}
use Rattle.std.specs.Prelude.{Contains, IsTrue}
use Rattle.causal_context.specs.Context.{has}
use Rattle.live_map.proofs.one_key.known_of.Given as goal

abbrev pub invariant-loop-dot : goal.invariant-loop-dot
invariant-loop-dot g l = (k : ℕ) (e : _) → k < l.dot-index → IsTrue (has l.context (get_or l.dots k e)) → Contains l.known.items (get_or l.dots k e)

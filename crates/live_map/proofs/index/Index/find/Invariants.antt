use Rattle.std.proofs.Common.{ℕ, List}
use Rattle.std.specs.Prelude.{IsTrue}
use Rattle.live_map.specs.Index.{has_key}
use Rattle.live_map.proofs.Passing.{Passes}
use Rattle.live_map.proofs.index.Index.find.Given as goal

abbrev pub invariant-loop-dot : goal.invariant-loop-dot
invariant-loop-dot g l =
    Passes l.initial.dot-iterator l.dot-iterator (λ place. IsTrue (has_key l.touched place.1))
    × ((q : List ℕ) → IsTrue (has_key l.fn.touched q) → IsTrue (has_key l.touched q))

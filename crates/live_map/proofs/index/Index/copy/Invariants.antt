use Rattle.std.specs.Prelude.{IsTrue}
use Rattle.live_map.specs.Index.{names}
use Rattle.live_map.proofs.Passing.{Passes}
use Rattle.live_map.proofs.index.Index.copy.Given as goal

abbrev pub invariant-loop-dot : goal.invariant-loop-dot
invariant-loop-dot g l = Passes l.initial.dot-iterator l.dot-iterator (λ place. IsTrue (names l.copy place.0 place.1))

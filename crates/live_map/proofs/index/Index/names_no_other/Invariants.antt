use Rattle.std.proofs.Common.{◌≡◌}
use Rattle.live_map.proofs.Passing.{Passes}
use Rattle.live_map.proofs.index.Index.names_no_other.Given as goal

abbrev pub invariant-loop-other : goal.invariant-loop-other
invariant-loop-other g l = Passes l.initial.other-iterator l.other-iterator (λ place. place.1 ≡ l.key)

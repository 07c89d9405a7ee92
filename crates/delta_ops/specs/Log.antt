-- What a replica is to send: the deltas of a log. Of this project.
use Rattle.std.specs.Prelude.{List, map}
use Rattle.std.specs.declared.sync.Arc.{Arc}
use Rattle.causal_join.specs.OrMap.{OrMapValue}

-- the deltas of the log, the oldest first
abbrev pub deltas_of : {A : Type 0} → List (Arc OrMapValue A) → List OrMapValue
deltas_of log = map (λ delta. delta.value) log

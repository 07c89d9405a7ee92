use Rattle.std.proofs.Common.{map, take}
use Rattle.replica_store.specs.Reading.{IsTold}
use Rattle.replica_store.proofs.reading.last_opened.Given as goal

abbrev pub invariant-loop-string : goal.invariant-loop-string
invariant-loop-string l = IsTold l.number (map (λ string. string.items) (take l.string-index l.strings)) l.told.is_named l.told.number

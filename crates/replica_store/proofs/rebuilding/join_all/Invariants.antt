use Rattle.std.proofs.Common.{map, take}
use Rattle.replica_core.specs.Meaning.{meaning}
use Rattle.replica_store.specs.Reading.{HasJoined}
use Rattle.replica_store.proofs.rebuilding.join_all.Given as goal

abbrev pub invariant-loop-string : goal.invariant-loop-string
invariant-loop-string g l = HasJoined (map (λ string. string.items) (take l.string-index l.strings)) (meaning l.initial.replica) (meaning l.replica)

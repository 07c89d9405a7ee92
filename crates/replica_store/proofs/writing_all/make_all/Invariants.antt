use Rattle.std.proofs.Common.{map, take}
use Rattle.replica_store.specs.Writes.{MakesAll}
use Rattle.replica_store.proofs.writing_all.make_all.Given as goal

abbrev pub invariant-loop-write : goal.invariant-loop-write
invariant-loop-write g l = MakesAll g.H.PathHash.hash_of l.initial.replica l.replica (map g.W.ToMake.call (take l.write-index l.writes))
    (map g.W.ToMake.answered l.answers.items)

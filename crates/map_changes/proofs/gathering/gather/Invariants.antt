use Rattle.std.proofs.Common.{◌≡◌}
use Rattle.hash_path.specs.Map.{walk_under}
use Rattle.map_changes.specs.Searching.{Finds}
use Rattle.map_changes.proofs.Under.{LooksAt}
use Rattle.map_changes.proofs.gathering.gather.Given as goal

abbrev pub invariant-loop-key : goal.invariant-loop-key
invariant-loop-key g l =
    LooksAt l.these.map l.others.map (walk_under (g.H.PathHash.hash_of l.these.hash) l.fn.prefix l.these.map) l.key-iterator l.found.keys
    × Finds l.these.map l.others.map l.initial.found.keys l.found.keys

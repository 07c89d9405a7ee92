use Rattle.std.proofs.Common.{◌≡◌, [], take}
use Rattle.sync_model.specs.Laws.{NoClash}
use Rattle.map_changes.specs.Searching.{Finds}
use Rattle.map_changes.proofs.Levels.{GoneThrough, AreLonger}
use Rattle.map_changes.proofs.searching.further.Given as goal

abbrev pub invariant-loop-prefix : goal.invariant-loop-prefix
invariant-loop-prefix g l =
    Finds l.older.map l.newer.map l.initial.found.keys l.found.keys
    × (l.older.hash ≡ l.newer.hash → NoClash (g.H.PathHash.hash_of l.older.hash) l.older.map l.newer.map []
    → GoneThrough (g.H.PathHash.hash_of l.older.hash) l.older.map l.newer.map (take l.prefix-index l.level) l.found.keys l.next.items)
    × AreLonger l.level l.next.items

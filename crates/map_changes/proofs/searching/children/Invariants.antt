use Rattle.std.proofs.Common.{◌≡◌}
use Rattle.map_changes.specs.Searching.{GoesBelow}
use Rattle.map_changes.proofs.Levels.{AddsChildren}
use Rattle.map_changes.proofs.searching.children.Given as goal

abbrev pub invariant-loop-index : goal.invariant-loop-index
invariant-loop-index g l =
    (l.older.hash ≡ l.newer.hash → AddsChildren (g.H.PathHash.hash_of l.older.hash) l.older.map l.newer.map l.prefix l.index l.next.items)
    × GoesBelow l.prefix l.initial.next.items l.next.items

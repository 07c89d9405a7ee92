use Rattle.std.proofs.Common.{◌≡◌, [], ℕ, List}
use Rattle.std.specs.Prelude.{Contains}
use Rattle.op_model.specs.Shown.{IsAscending}
use Rattle.sync_model.specs.Laws.{NoClash}
use Rattle.map_changes.specs.Changes.{IsChanged}
use Rattle.map_changes.specs.Searching.{Covers, AreLong}
use Rattle.map_changes.proofs.searching.changes.Given as goal

abbrev pub invariant-loop : goal.invariant-loop
invariant-loop g l =
    IsAscending l.found.keys
    × ((key : List ℕ) → Contains l.found.keys key → IsChanged l.older.map l.newer.map key)
    × (l.older.hash ≡ l.newer.hash → NoClash (g.H.PathHash.hash_of l.older.hash) l.older.map l.newer.map []
    → Covers (g.H.PathHash.hash_of l.older.hash) l.older.map l.newer.map l.found.keys l.level.items)
    × AreLong l.counter l.level.items

use Rattle.page_fetching.specs.Building.{GoesOn, GoesWhere}
use Rattle.page_fetching.proofs.Removing.{up_to}
use Rattle.page_fetching.proofs.clearing.clear_unlisted.Given as goal

abbrev pub invariant-loop-index : goal.invariant-loop-index
invariant-loop-index g l =
    GoesWhere (up_to (g.H.PathHash.hash_of l.before.hash) l.prefix l.children l.index) l.before.map l.fn.draft.entries l.draft.entries
    × GoesOn l.fn.draft l.draft

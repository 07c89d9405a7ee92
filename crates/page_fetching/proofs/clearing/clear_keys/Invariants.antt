use Rattle.std.proofs.Common.{◌≡◌}
use Rattle.hash_path.specs.Map.{walk_under}
use Rattle.page_fetching.specs.Building.{GoesOn, remove_all}
use Rattle.page_fetching.proofs.clearing.clear_keys.Given as goal

abbrev pub invariant-loop-key : goal.invariant-loop-key
invariant-loop-key g l =
    (remove_all l.key-iterator l.draft.entries ≡ remove_all (walk_under (g.H.PathHash.hash_of l.before.hash) l.fn.prefix l.before.map) l.fn.draft.entries)
    × GoesOn l.fn.draft l.draft

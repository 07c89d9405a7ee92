use Rattle.std.proofs.Common.{◌≡◌, ◌++◌}
use Rattle.hash_path.specs.Map.{walk_under}
use Rattle.prefix_digest.specs.Page.{named_entries}
use Rattle.prefix_digest.proofs.pages.keys.Given as goal

abbrev pub invariant-loop-key : goal.invariant-loop-key
invariant-loop-key g l = l.entries.items ++ named_entries l.key-iterator ≡ named_entries
    (walk_under (g.H.PathHash.hash_of l.fn.frozen.hash) l.fn.prefix l.fn.frozen.map)

use Rattle.std.proofs.Common.{◌≡◌, drop}
use Rattle.std.specs.List.{list_all}
use Rattle.hash_path.specs.Word.{begins}
use Rattle.hash_path.specs.Map.{path}
use Rattle.page_fetching.proofs.fitting.are_under.Given as goal

abbrev pub invariant-loop-key : goal.invariant-loop-key
invariant-loop-key g l =
    list_all (λ e. begins l.fn.prefix (path (g.H.PathHash.hash_of l.hash) e.0)) l.entries
    ≡ list_all (λ e. begins l.fn.prefix (path (g.H.PathHash.hash_of l.hash) e.0)) (drop l.key-index l.entries)

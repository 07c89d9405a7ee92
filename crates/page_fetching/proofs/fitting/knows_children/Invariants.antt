use Rattle.std.proofs.Common.{◌≡◌, ◌++◌, ◌∷◌, [], drop, not}
use Rattle.std.specs.Prelude.{◌||◌}
use Rattle.std.specs.List.{list_all}
use Rattle.causal_context.specs.Context.{has}
use Rattle.hash_path.specs.Map.{walk_under}
use Rattle.sync_model.specs.Fetch.{within}
use Rattle.sync_model.specs.Fetch as model
use Rattle.page_fetching.proofs.fitting.knows_children.Given as goal

abbrev pub invariant-loop-child : goal.invariant-loop-child
invariant-loop-child g l =
    list_all (λ c. not (model.is_own (g.H.PathHash.hash_of l.own.hash) l.own.map l.fn.prefix c)
    || within (has l.known) (walk_under (g.H.PathHash.hash_of l.own.hash) (l.fn.prefix ++ c.0 ∷ []) l.own.map)) l.children
    ≡ list_all (λ c. not (model.is_own (g.H.PathHash.hash_of l.own.hash) l.own.map l.fn.prefix c)
    || within (has l.known) (walk_under (g.H.PathHash.hash_of l.own.hash) (l.fn.prefix ++ c.0 ∷ []) l.own.map)) (drop l.child-index l.children)

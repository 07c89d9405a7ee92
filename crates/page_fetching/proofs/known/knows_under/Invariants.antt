use Rattle.std.proofs.Common.{◌≡◌}
use Rattle.std.specs.List.{list_all}
use Rattle.causal_context.specs.Context.{has}
use Rattle.hash_path.specs.Map.{walk_under}
use Rattle.sync_model.specs.Fetch.{within_fields, within}
use Rattle.page_fetching.proofs.known.knows_under.Given as goal

abbrev pub invariant-loop-fields : goal.invariant-loop-fields
invariant-loop-fields g l =
    within (has l.known) (walk_under (g.H.PathHash.hash_of l.frozen.hash) l.fn.prefix l.frozen.map)
    ≡ list_all (λ e. within_fields (has l.known) e.1) l.fields-iterator

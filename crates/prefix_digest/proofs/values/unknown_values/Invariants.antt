use Rattle.std.proofs.Common.{◌≡◌, ◌++◌}
use Rattle.causal_context.specs.Context.{has}
use Rattle.hash_path.specs.Map.{walk_under}
use Rattle.prefix_digest.specs.Values.{unknown_in}
use Rattle.prefix_digest.proofs.values.unknown_values.Given as goal

abbrev pub invariant-loop-fields : goal.invariant-loop-fields
invariant-loop-fields g l = l.values.items ++ unknown_in (has l.known) l.fields-iterator
    ≡ unknown_in (has l.known) (walk_under (g.H.PathHash.hash_of l.fn.frozen.hash) l.fn.prefix l.fn.frozen.map)

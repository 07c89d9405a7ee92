use Rattle.std.proofs.Common.{◌≡◌, ◌++◌, take}
use Rattle.causal_context.specs.Context.{has}
use Rattle.prefix_digest.specs.Values.{unknown_in_values}
use Rattle.prefix_digest.proofs.values.add_values.Given as goal

abbrev pub invariant-loop-dot : goal.invariant-loop-dot
invariant-loop-dot g l = l.values.items ≡ l.fn.values.items ++ unknown_in_values (has l.known) (take l.dot-index l.dot-items)

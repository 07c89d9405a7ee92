use Rattle.std.proofs.Common.{◌≡◌, ◌++◌, take}
use Rattle.causal_context.specs.Context.{has}
use Rattle.prefix_digest.specs.Values.{unknown_in_fields}
use Rattle.prefix_digest.proofs.values.add_fields.Given as goal

abbrev pub invariant-loop-held : goal.invariant-loop-held
invariant-loop-held g l = l.values.items ≡ l.fn.values.items ++ unknown_in_fields (has l.known) (take l.held-index l.held-items)

use Rattle.std.proofs.Common.{◌≡◌, take}
use Rattle.prefix_digest.specs.Page.{named_values}
use Rattle.prefix_digest.proofs.naming.named_values.Given as goal

abbrev pub invariant-loop-dot : goal.invariant-loop-dot
invariant-loop-dot g l = l.names.items ≡ named_values (take l.dot-index l.entries)

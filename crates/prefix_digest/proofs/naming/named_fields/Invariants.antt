use Rattle.std.proofs.Common.{◌≡◌, take}
use Rattle.prefix_digest.specs.Page.{named_fields}
use Rattle.prefix_digest.proofs.naming.named_fields.Given as goal

abbrev pub invariant-loop-field : goal.invariant-loop-field
invariant-loop-field g l = l.named.items ≡ named_fields (take l.field-index l.entries)

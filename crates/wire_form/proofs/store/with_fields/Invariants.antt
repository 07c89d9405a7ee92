use Rattle.std.proofs.Common.{◌≡◌}
use Rattle.wire_form.proofs.store.with_fields.Given as goal

abbrev pub invariant-loop-key : goal.invariant-loop-key
invariant-loop-key g l = l.entries.items ≡ l.yielded

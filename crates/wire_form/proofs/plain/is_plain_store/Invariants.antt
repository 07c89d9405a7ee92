use Rattle.std.proofs.Common.{◌≡◌, take, true}
use Rattle.wire_form.specs.Store.{is_plain_form}
use Rattle.wire_form.proofs.plain.is_plain_store.Given as goal

abbrev pub invariant-loop-fields : goal.invariant-loop-fields
invariant-loop-fields g l = is_plain_form (take l.fields-index l.entries) ≡ true

use Rattle.std.proofs.Common.{take}
use Rattle.std.specs.List.{AllByRecursion}
use Rattle.wire_form.proofs.Alls.{HasFields}
use Rattle.wire_form.proofs.standing.are_filled.Given as goal

abbrev pub invariant-loop-fields : goal.invariant-loop-fields
invariant-loop-fields g l = AllByRecursion HasFields (take l.fields-index l.entries)

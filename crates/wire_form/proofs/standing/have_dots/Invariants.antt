use Rattle.std.proofs.Common.{take}
use Rattle.std.specs.List.{AllByRecursion}
use Rattle.wire_form.proofs.Alls.{HasDot}
use Rattle.wire_form.proofs.standing.have_dots.Given as goal

abbrev pub invariant-loop-names : goal.invariant-loop-names
invariant-loop-names g l = AllByRecursion HasDot (take l.names-index l.entries)

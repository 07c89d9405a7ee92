use Rattle.std.proofs.Common.{◌≡◌, [], replicate}
use Rattle.root_cell.proofs.cell.seats.Given as goal

abbrev pub invariant-loop : goal.invariant-loop
invariant-loop g l = l.views.items ≡ replicate l.counter []

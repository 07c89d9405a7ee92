use Rattle.std.proofs.Common.{◌≡◌}
use Rattle.root_cell.proofs.desk.lay.Given as goal

abbrev pub invariant-loop : goal.invariant-loop
invariant-loop g l =
    (goal.iterator-loop g).can_next l.iterator' × (goal.iterator-loop g).is_finite l.iterator' × (l.waiting ≡ l.fn.published)
    × (l.desk.desk.shown.value ≡ l.fn.desk.desk.shown.value)

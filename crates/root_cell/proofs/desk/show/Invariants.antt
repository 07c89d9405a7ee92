use Rattle.std.proofs.Common.{◌≡◌, drop}
use Rattle.root_cell.specs.Rule.{due}
use Rattle.root_cell.proofs.desk.show.Given as goal

abbrev pub invariant-loop : goal.invariant-loop
invariant-loop g l =
    (goal.iterator-loop g).can_next l.iterator' × (goal.iterator-loop g).is_finite l.iterator'
    × (l.desk.desk.shown.value ≡ l.fn.desk.desk.shown.value)
    × (due l.desk.desk.shown.value (drop l.desk.behind l.desk.log.items) ≡ due l.fn.desk.desk.shown.value (drop l.fn.desk.behind l.fn.desk.log.items))

use Rattle.root_cell.proofs.Prefixes.{prefix_self}
use Rattle.root_cell.proofs.desk.make_room.Goals as goal

pub show_once-requires-clause-longer : goal.show_once-requires-clause-longer
show_once-requires-clause-longer g c =
    let laid = c.in-Ok-lay_once.ensures in
    rw (laid.due, laid.shown, c.requires.shown, c.in-Ok.ensures) (prefix_self _)

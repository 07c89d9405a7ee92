use Rattle.root_cell.proofs.desk.show.Goals as goal

-- src/desk.rt
pub show_once-next-requires-clause-stands : goal.show_once-next-requires-clause-stands
show_once-next-requires-clause-stands g c = rw c.loop.invariant.3 c.requires.stands

pub show_once-next-requires-clause-longer : goal.show_once-next-requires-clause-longer
show_once-next-requires-clause-longer g c = rw (c.loop.invariant.3, c.loop.invariant.2) c.requires.longer

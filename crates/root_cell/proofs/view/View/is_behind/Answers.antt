use Rattle.root_cell.proofs.view.View.is_behind.Goals as goal

pub returns : goal.returns
returns g c = rw (← c.self.view_is, ← c.other.view_is) c.is_behind.ensures

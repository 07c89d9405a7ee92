use Rattle.root_cell.proofs.entered.Entered.events.Goals as goal

-- src/entered.rt
pub returns : goal.returns
returns g c = rw (← c.self.view_is) c.events.ensures

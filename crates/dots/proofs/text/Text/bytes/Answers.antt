use Rattle.dots.proofs.text.Text.bytes.Goals as goal

-- src/text.rt
pub returns-clause-value : goal.returns-clause-value
returns-clause-value A c = rw (← c.self.view_is) c.as_slice.ensures

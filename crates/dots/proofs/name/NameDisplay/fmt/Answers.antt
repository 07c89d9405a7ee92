use Rattle.dots.proofs.name.NameDisplay.fmt.Goals as goal

-- src/name.rt
pub returns-clause-writes : goal.returns-clause-writes
returns-clause-writes A c = rw (← c.number-number.ensures.value) c.write.ensures.writes

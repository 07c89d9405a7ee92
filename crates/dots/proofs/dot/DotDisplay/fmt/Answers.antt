use Rattle.dots.proofs.dot.DotDisplay.fmt.Goals as goal

-- src/dot.rt
pub returns-clause-writes : goal.returns-clause-writes
returns-clause-writes A c = rw (← c.name.ensures, ← c.number-name.ensures.value, ← c.number-number.ensures.value) c.write.ensures.writes

use Rattle.dots.proofs.text.TextOrd.cmp.Goals as goal

-- src/text.rt
pub returns : goal.returns
returns A c = rw (← c.bytes.ensures.value, ← c.bytes-2.ensures.value) c.cmp.ensures

use Rattle.dots.proofs.text.TextDebug.fmt.Goals as goal

pub returns : goal.returns
returns g c = rw (← c.bytes-bytes.ensures.value) c.write.ensures

use Rattle.prefix_digest.proofs.naming.value_digest.Goals as goal

-- src/naming.rt
pub returns : goal.returns
returns g c = rw (← c.bytes.ensures.value) c.digest.ensures

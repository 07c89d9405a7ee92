use Rattle.causal_join.proofs.fields.FieldsDotStore.join.Goals as goal

-- src/fields.rt
pub returns-clause-ok : goal.returns-clause-ok
returns-clause-ok g c = rw (← c.self.view_is, ← c.other.view_is) c.in_ok-values.ensures.ok

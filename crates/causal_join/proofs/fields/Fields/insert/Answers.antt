use Rattle.causal_join.proofs.fields.Fields.insert.Goals as goal

pub returns-clause-ok : goal.returns-clause-ok
returns-clause-ok g c = rw (← c.self.view_is) c.insert.ensures.ok

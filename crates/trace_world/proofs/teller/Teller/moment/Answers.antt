use Rattle.trace_world.proofs.teller.Teller.moment.Goals as goal

pub returns-clause-runs : goal.returns-clause-runs
returns-clause-runs g c = rw (← c.self.view_is) c.past.ensures.runs

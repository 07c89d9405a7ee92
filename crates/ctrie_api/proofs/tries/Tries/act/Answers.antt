use Rattle.ctrie_api.proofs.tries.Tries.act.Goals as goal

-- src/tries.rt
pub returns-in-Clear-clause-ok : goal.returns-in-Clear-clause-ok
returns-in-Clear-clause-ok g c = rw (c.in-Clear.is, ← c.self.view_is) c.write_at-in-Clear.ensures.ok

pub returns-in-Clear-clause-there : goal.returns-in-Clear-clause-there
returns-in-Clear-clause-there g c = rw (c.in-Clear.is, ← c.self.view_is) c.write_at-in-Clear.ensures.there

pub returns-in-Clear-clause-read_only : goal.returns-in-Clear-clause-read_only
returns-in-Clear-clause-read_only g c = rw (c.in-Clear.is, ← c.self.view_is) c.write_at-in-Clear.ensures.read_only

use Rattle.std.proofs.Common.{◌∙◌}
use Rattle.causal_join.proofs.fields.Fields.entries.Goals as goal

-- src/fields.rt
pub returns-clause-rest : goal.returns-clause-rest
returns-clause-rest g c = c.entries.ensures.rest ∙ c.self.view_is

pub returns-clause-filled : goal.returns-clause-filled
returns-clause-filled g c = c.entries.ensures.filled

pub returns-clause-held : goal.returns-clause-held
returns-clause-held g c = rw (← c.self.view_is) c.entries.ensures.held

pub returns-clause-only : goal.returns-clause-only
returns-clause-only g c = rw (← c.self.view_is) c.entries.ensures.only

pub returns-clause-ordered : goal.returns-clause-ordered
returns-clause-ordered g c = c.entries.ensures.ordered

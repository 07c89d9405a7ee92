use Rattle.std.proofs.Common.{◌∙◌}
use Rattle.root_cell.proofs.published.PublishedAbsorb.absorb_first.Goals as goal

pub returns-clause-absorbed : goal.returns-clause-absorbed
returns-clause-absorbed g c = c.replace.ensures.after ∙ c.in_ok-again.ensures

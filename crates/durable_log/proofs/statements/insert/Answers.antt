use Rattle.std.proofs.Common.{rules, ◌≡◌, ◌≢◌, ℤ, pos, to_z-of_z}
use Rattle.durable_log.proofs.statements.insert.Goals as goal

pub returns-clause-placed : goal.returns-clause-placed
returns-clause-placed g c clean = c.in_ok-add.ensures.placed clean _ (search (rules, to_z-of_z)) (search (rules, to_z-of_z))

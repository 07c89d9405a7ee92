use Rattle.std.proofs.Common.{◌∙◌}
use Rattle.sync_protocol.proofs.Kept.{first_out}
use Rattle.sync_protocol.proofs.keeping.drop_oldest.Goals as goal

pub returns-clause-entries : goal.returns-clause-entries
returns-clause-entries g c = c.shift_remove_index.ensures.entries ∙ first_out c.args.kept.now.entries

use Rattle.std.proofs.Common.{◌∙◌}
use Rattle.indexmap.proofs.CallerLemmas.{insert_entry-new}
use Rattle.wire_form.specs.Session.{same_session}
use Rattle.sync_protocol.proofs.keeping.add.Goals as goal

pub returns : goal.returns
returns g c = c.in-Ok.ensures.entries ∙ insert_entry-new same_session c.args.kept.now c.args.session c.args.snapshot c.requires.new

use Rattle.std.proofs.Common.{◌∙◌, ap}
use Rattle.wire_form.specs.Session.{same_session}
use Rattle.sync_protocol.specs.Asking.{AskerValue}
use Rattle.sync_protocol.proofs.asker.Asker.is_of.Goals as goal

pub returns : goal.returns
returns g c = c.eq.ensures ∙ ap (λ (a : AskerValue _). same_session a.session c.args.session) c.self.view_is

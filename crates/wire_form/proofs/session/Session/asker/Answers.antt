use Rattle.std.proofs.Common.{ap}
use Rattle.wire_form.proofs.session.Session.asker.Goals as goal

-- src/session.rt
pub returns : goal.returns
returns c = ap (λ session. session.asker) c.self.view_is

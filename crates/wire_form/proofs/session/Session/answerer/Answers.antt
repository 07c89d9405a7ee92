use Rattle.std.proofs.Common.{ap}
use Rattle.wire_form.proofs.session.Session.answerer.Goals as goal

-- src/session.rt
pub returns : goal.returns
returns c = ap (λ session. session.answerer) c.self.view_is

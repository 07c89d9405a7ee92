use Rattle.std.proofs.Common.{ap, ◌∙◌}
use Rattle.wire_form.proofs.sent_page.SentPage.values.Goals as goal

-- src/sent_page.rt
pub returns : goal.returns
returns A c = c.deref.ensures.value ∙ ap (λ sent. sent.values) c.self.view_is

use Rattle.std.specs.Prelude.{refl}
use Rattle.wire_form.proofs.message.Message.session.Goals as goal

-- src/message.rt
pub returns-in-Opening : goal.returns-in-Opening
returns-in-Opening A c = rw c.in-Opening.is refl

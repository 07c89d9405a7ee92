use Rattle.std.specs.Prelude.{refl}
use Rattle.wire_form.proofs.message.Message.ask.Goals as goal

-- src/message.rt
pub returns : goal.returns
returns A c = refl

use Rattle.wire_form.proofs.Messages.{one_message}
use Rattle.wire_form.proofs.laws.bytes_spell_one_message.Goals as goal

pub returns : goal.returns
returns c = one_message

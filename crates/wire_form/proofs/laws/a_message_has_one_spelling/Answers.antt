use Rattle.wire_form.proofs.Messages.{one_spelling}
use Rattle.wire_form.proofs.laws.a_message_has_one_spelling.Goals as goal

pub returns : goal.returns
returns c = one_spelling

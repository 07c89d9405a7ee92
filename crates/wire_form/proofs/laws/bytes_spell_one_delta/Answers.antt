use Rattle.wire_form.proofs.Messages.{one_delta}
use Rattle.wire_form.proofs.laws.bytes_spell_one_delta.Goals as goal

pub returns : goal.returns
returns c = one_delta

use Rattle.std.proofs.Common.{true, arith}
use Rattle.std.proofs.lemmas.Grind.{common_steps}
use Rattle.wire_form.proofs.Messages.{delta_spelled}
use Rattle.wire_form.proofs.decoding.read_message.Goals as goal

pub returns-in_ok-read_delta-in-1 : goal.returns-in_ok-read_delta-in-1
returns-in_ok-read_delta-in-1 g c = delta_spelled true c.args.bytes.now _ c.in_ok-read_delta-in-1.field-0 (grind (arith, common_steps))
    c.in_ok-read_delta-in-1.ensures

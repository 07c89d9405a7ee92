use Rattle.wire_form.proofs.Numbers.{no_name, zero_unless}
use Rattle.wire_form.proofs.number.NameSpelled.read.Goals as goal

pub returns-in_default : goal.returns-in_default
returns-in_default g c = no_name c.args.bytes.now c.in_ok-number.number c.in_ok-number.rest.now c.in_ok-number.ensures
    (zero_unless c.in_ok-number.number c.in_default.ensures.found.1)

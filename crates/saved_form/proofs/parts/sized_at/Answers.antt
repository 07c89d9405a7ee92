use Rattle.saved_form.proofs.Heads.{no_sized}
use Rattle.saved_form.proofs.parts.sized_at.Goals as goal

pub returns-then-rest-length : goal.returns-then-rest-length
returns-then-rest-length c = no_sized c.args.bytes.now c.in_ok-length.length c.in_ok-length.rest.now c.in_ok-length.ensures c.if-rest-length.true

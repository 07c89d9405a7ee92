use Rattle.std.proofs.Common.{refl}
use Rattle.wire_form.specs.Message as form
use Rattle.ginelm_c.proofs.bringing.letter_of.Goals as goal

pub returns-clause-spelled : goal.returns-clause-spelled
returns-clause-spelled c = (form.Delta c.args.delta, c.in_ok-letter.ensures.ok.spelled, refl)

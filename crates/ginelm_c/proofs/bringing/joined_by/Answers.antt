use Rattle.std.proofs.Common.{refl}
use Rattle.ginelm_c.proofs.Told.{brought_alone}
use Rattle.ginelm_c.proofs.bringing.joined_by.Goals as goal

pub returns-clause-ok : goal.returns-clause-ok
returns-clause-ok c =
    let found = c.in_ok-letter.ensures in
    record { same = refl; message = found.0; spelled = found.1; told = brought_alone c.in_ok-letter.letter c.args.held.now.replica found.0 found.2 }

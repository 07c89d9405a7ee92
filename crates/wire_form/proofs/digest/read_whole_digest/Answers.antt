use Rattle.wire_form.proofs.Naming.{digest_whole}
use Rattle.wire_form.proofs.digest.read_whole_digest.Goals as goal

pub returns-in-Some-default-empty : goal.returns-in-Some-default-empty
returns-in-Some-default-empty c =
    let cut = c.in-Some-default-empty.ensures.cases in
    digest_whole c.args.bytes.now c.in-Some-default-empty.digest.now c.in-Some-default-empty.field-0-1.now cut.0 cut.1 cut.2 c.in-Some-default-empty.len_below

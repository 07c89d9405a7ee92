use Rattle.wire_form.proofs.Naming.{digest_begins}
use Rattle.wire_form.proofs.digest.ArrayU832Spelled.read.Goals as goal

pub returns-in-Some : goal.returns-in-Some
returns-in-Some g c =
    let cut = c.in-Some.ensures.cases in
    digest_begins c.args.bytes.now c.in-Some.digest.now c.in-Some.rest.now cut.0 cut.1 cut.2

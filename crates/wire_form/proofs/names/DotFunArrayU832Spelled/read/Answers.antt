use Rattle.std.proofs.Common.{refl}
use Rattle.wire_form.proofs.Naming.{names_begin, no_names}
use Rattle.wire_form.proofs.names.DotFunArrayU832Spelled.read.Goals as goal

pub returns-in-Some : goal.returns-in-Some
returns-in-Some g c =
    let ascend = c.in-Some.ensures.ascend in
    let same = c.in-Some.ensures.values in
    names_begin c.args.bytes.now c.in_ok-entries.entries.items c.in-Some.names c.in_ok-entries.rest.now c.in_ok-entries.ensures (ascend.0 refl) same

pub returns-in-None : goal.returns-in-None
returns-in-None g c =
    let ascend = c.in-None.ensures.ascend in
    no_names c.args.bytes.now c.in_ok-entries.entries.items c.in_ok-entries.rest.now c.in_ok-entries.ensures ascend.1

use Rattle.std.proofs.Common.{refl}
use Rattle.wire_form.proofs.Naming.{named_begin, no_named}
use Rattle.wire_form.proofs.names.OrderedListFieldDotFunArrayU832Spelled.read.Goals as goal

pub returns-in-Some : goal.returns-in-Some
returns-in-Some g c =
    let ascend = c.in-Some.ensures.ascend in
    let same = c.in-Some.ensures.entries in
    named_begin c.args.bytes.now c.in_ok-entries.entries.items c.in-Some.fields c.in_ok-entries.rest.now c.in_ok-entries.ensures (ascend.0 refl) same

pub returns-in-None : goal.returns-in-None
returns-in-None g c =
    let ascend = c.in-None.ensures.ascend in
    no_named c.args.bytes.now c.in_ok-entries.entries.items c.in_ok-entries.rest.now c.in_ok-entries.ensures ascend.1

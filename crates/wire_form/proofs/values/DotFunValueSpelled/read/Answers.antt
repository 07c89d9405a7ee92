use Rattle.std.proofs.Common.{refl}
use Rattle.wire_form.proofs.Bodies.{values_begin, no_values}
use Rattle.wire_form.proofs.values.DotFunValueSpelled.read.Goals as goal

pub returns-in-Some : goal.returns-in-Some
returns-in-Some g c =
    let ascend = c.in-Some.ensures.ascend in
    let same = c.in-Some.ensures.values in
    values_begin c.args.bytes.now c.in_ok-entries.entries.items c.in-Some.values c.in_ok-entries.rest.now c.in_ok-entries.ensures (ascend.0 refl) same

pub returns-in-None : goal.returns-in-None
returns-in-None g c =
    let ascend = c.in-None.ensures.ascend in
    no_values c.args.bytes.now c.in_ok-entries.entries.items c.in_ok-entries.rest.now c.in_ok-entries.ensures ascend.1

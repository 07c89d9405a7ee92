use Rattle.std.proofs.Common.{refl}
use Rattle.wire_form.proofs.Bodies.{sole_begins, no_sole}
use Rattle.wire_form.proofs.plain.PlainSpelled.read.Goals as goal

pub returns-in-Some : goal.returns-in-Some
returns-in-Some g c =
    let canonical = rw c.in-Some.is at c.in_ok-fields.ensures.canonical in
    let same = rw c.in-Some.is at c.in_ok-fields.ensures.fields in
    let both = canonical.0 refl in
    sole_begins c.args.bytes.now c.in_ok-values.values c.in-Some.fields c.in_ok-values.rest.now c.in_ok-values.ensures both.0 both.1 same

pub returns-in-None : goal.returns-in-None
returns-in-None g c =
    let canonical = rw c.in-None.is at c.in_ok-fields.ensures.canonical in
    no_sole c.args.bytes.now c.in_ok-values.values c.in_ok-values.rest.now c.in_ok-values.ensures canonical.1

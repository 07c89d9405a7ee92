use Rattle.std.proofs.Common.{refl}
use Rattle.wire_form.proofs.Bodies.{fields_begin, no_fields}
use Rattle.wire_form.proofs.fields.FieldsSpelled.read.Goals as goal

pub returns-in-Some : goal.returns-in-Some
returns-in-Some g c =
    let canonical = c.in-Some.ensures.canonical in
    let same = c.in-Some.ensures.stores in
    let both = canonical.0 refl in
    fields_begin c.args.bytes.now c.in_ok-entries.entries.items c.in-Some.fields c.in_ok-entries.rest.now c.in_ok-entries.ensures both.0 both.1 same

pub returns-in-None : goal.returns-in-None
returns-in-None g c =
    let canonical = c.in-None.ensures.canonical in
    no_fields c.args.bytes.now c.in_ok-entries.entries.items c.in_ok-entries.rest.now c.in_ok-entries.ensures canonical.1

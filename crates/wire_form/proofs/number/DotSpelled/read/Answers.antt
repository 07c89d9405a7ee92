use Rattle.std.proofs.lemmas.Result.{err_from_is_err_and}
use Rattle.wire_form.specs.Spelling.{number, IsNumber, HasNoSpelling}
use Rattle.wire_form.specs.Parts.{dot_bytes, IsDot}
use Rattle.wire_form.proofs.Reading.{refuses_weaker}
use Rattle.wire_form.proofs.Numbers.{no_dot_number, no_dot}
use Rattle.wire_form.proofs.number.DotSpelled.read.Goals as goal

pub returns-in_err-number : goal.returns-in_err-number
returns-in_err-number g c =
    let p = err_from_is_err_and c.from_residual-in_err-number.result c.from_residual-in_err-number.ensures.1 in
    rw (p.1, p.2)
    (refuses_weaker (HasNoSpelling number IsNumber c.in_ok-name.rest.now) (HasNoSpelling dot_bytes IsDot c.args.bytes.now) c.in_err-number.field-0.0
    (no_dot_number c.args.bytes.now c.in_ok-name.name c.in_ok-name.rest.now c.in_ok-name.ensures) c.in_err-number.ensures)

pub returns-in-None : goal.returns-in-None
returns-in-None g c =
    no_dot c.args.bytes.now c.in_ok-name.name c.in_ok-name.rest.now c.in_ok-number.number c.in_ok-number.rest.now c.in_ok-name.ensures c.in_ok-number.ensures
    c.in-None.ensures.found.1

use Rattle.std.proofs.Common.{◌++◌}
use Rattle.std.proofs.lemmas.Result.{err_from_is_err_and}
use Rattle.wire_form.specs.Spelling.{counted, AreCounted, IsWhole, HasNoSpelling}
use Rattle.wire_form.specs.Parts.{text, IsText}
use Rattle.wire_form.specs.Prefix.{prefix}
use Rattle.wire_form.specs.Page.{PageValue, value_of, spelled, ArePartsOf}
use Rattle.wire_form.proofs.Reading.{refuses_weaker}
use Rattle.wire_form.proofs.Shown.{SpellsNoSent, no_sent_values, no_sent_page, no_sent}
use Rattle.wire_form.proofs.sent_reading.read_sent_at.Goals as goal

pub returns-in_err-values : goal.returns-in_err-values
returns-in_err-values g c =
    let p = err_from_is_err_and c.from_residual.result c.from_residual.ensures.1 in
    rw (p.1, p.2)
    (refuses_weaker (HasNoSpelling (counted text) (AreCounted IsText) c.args.bytes.now) (SpellsNoSent (prefix c.args.prefix ++ c.args.bytes.now))
    c.in_err-values.field-0.0
    (no_sent_values c.args.prefix c.args.bytes.now c.requires) c.in_err-values.ensures)

pub returns-in_err-page : goal.returns-in_err-page
returns-in_err-page g c =
    let p = err_from_is_err_and c.from_residual-in_err-page.result c.from_residual-in_err-page.ensures.1 in
    rw (p.1, p.2)
    (refuses_weaker ((page : PageValue) → IsWhole spelled ArePartsOf c.in_ok-values.rest.now page → ⊥) (SpellsNoSent (prefix c.args.prefix ++ c.args.bytes.now))
    c.in_err-page.field-0.0
    (no_sent_page c.args.prefix c.args.bytes.now c.requires c.in_ok-values.values.items c.in_ok-values.rest.now c.in_ok-values.ensures) c.in_err-page.ensures)

pub returns-in-None : goal.returns-in-None
returns-in-None g c =
    let lawful = c.in-None.ensures.lawful in
    no_sent c.args.prefix c.args.bytes.now c.requires c.in_ok-values.values.items c.in_ok-values.rest.now c.in_ok-values.ensures (value_of c.in_ok-page.page)
    c.in_ok-page.ensures lawful.1

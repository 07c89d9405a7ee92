use Rattle.std.proofs.Common.{◌∷◌}
use Rattle.std.proofs.lemmas.Result.{err_from_is_err_and}
use Rattle.wire_form.specs.Spelling.{HasNoSpelling}
use Rattle.wire_form.specs.Page.{entry, IsEntry}
use Rattle.wire_form.proofs.Reading.{refuses_weaker}
use Rattle.wire_form.proofs.Naming.{SpellsNoPage, one_key_spelled, no_one_key, no_one_key_end}
use Rattle.wire_form.proofs.page_reading.read_one_key.Goals as goal

pub returns-in_err-entry : goal.returns-in_err-entry
returns-in_err-entry g c =
    let p = err_from_is_err_and c.from_residual.result c.from_residual.ensures.1 in
    rw (p.1, p.2)
    (refuses_weaker (HasNoSpelling entry IsEntry c.args.bytes.now) (SpellsNoPage (0 ∷ c.args.bytes.now)) c.in_err-entry.field-0.0 (no_one_key c.args.bytes.now)
    c.in_err-entry.ensures)

pub returns-then-not-is_empty : goal.returns-then-not-is_empty
returns-then-not-is_empty g c = no_one_key_end c.args.bytes.now c.in_ok-entry.entry c.in_ok-entry.rest.now c.in_ok-entry.ensures c.if-not-is_empty.ensures

pub returns : goal.returns
returns g c = one_key_spelled c.args.bytes.now c.in_ok-entry.entry c.in_ok-entry.rest.now c.in_ok-entry.ensures c.if-not-is_empty.ensures

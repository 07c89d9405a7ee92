use Rattle.std.proofs.Common.{List, ◌∷◌}
use Rattle.std.proofs.lemmas.Result.{err_from_is_err_and}
use Rattle.std.specs.List.{flat_map, AllByRecursion}
use Rattle.wire_form.specs.Spelling.{IsWhole}
use Rattle.wire_form.specs.Page.{EntryValue, entry, IsEntry}
use Rattle.wire_form.proofs.Reading.{refuses_weaker}
use Rattle.wire_form.proofs.Naming.{SpellsNoPage, no_keys}
use Rattle.wire_form.proofs.page_reading.read_keys.Goals as goal

pub returns-in_err-read_to_end : goal.returns-in_err-read_to_end
returns-in_err-read_to_end g c =
    let p = err_from_is_err_and c.from_residual.result c.from_residual.ensures.1 in
    rw (p.1, p.2)
    (refuses_weaker ((xs : List EntryValue) → IsWhole (flat_map entry) (AllByRecursion IsEntry) c.args.bytes.now xs → ⊥) (SpellsNoPage (1 ∷ c.args.bytes.now))
    c.in_err-read_to_end.field-0.0 (no_keys c.args.bytes.now) c.in_err-read_to_end.ensures)

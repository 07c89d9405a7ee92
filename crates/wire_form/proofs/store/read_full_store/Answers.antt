use Rattle.std.proofs.Common.{false, refl, sym}
use Rattle.std.proofs.lemmas.Result.{err_from_is_err_and}
use Rattle.wire_form.specs.Spelling.{pair, IsPair, counted, AreCounted, HasNoSpelling}
use Rattle.wire_form.specs.Parts.{text, IsText, fields_bytes, AreFields}
use Rattle.wire_form.specs.Store.{store, IsStoreOf}
use Rattle.wire_form.proofs.Reading.{refuses_weaker}
use Rattle.wire_form.proofs.Stores.{full_store_begins, no_full_items, no_full_store, no_fields_of_plain}
use Rattle.wire_form.proofs.store.read_full_store.Goals as goal

pub returns-in_err-entries : goal.returns-in_err-entries
returns-in_err-entries g c =
    let p = err_from_is_err_and c.from_residual.result c.from_residual.ensures.1 in
    rw (p.1, p.2)
    (refuses_weaker (HasNoSpelling (counted (pair text fields_bytes)) (AreCounted (IsPair IsText AreFields)) c.args.bytes.now)
    (HasNoSpelling (store false) (IsStoreOf false) c.args.bytes.now) c.in_err-entries.field-0.0
    (no_full_items c.args.bytes.now) c.in_err-entries.ensures)

pub returns-then-is_plain_store : goal.returns-then-is_plain_store
returns-then-is_plain_store g c =
    let same = c.in-Some.ensures.stores in
    no_fields_of_plain c.args.bytes.now c.in_ok-entries.entries.items c.in-Some.store c.in_ok-entries.rest.now c.in_ok-entries.ensures same
    (sym c.if-is_plain_store.ensures)

pub returns-else-is_plain_store : goal.returns-else-is_plain_store
returns-else-is_plain_store g c =
    let canonical = c.in-Some.ensures.canonical in
    let same = c.in-Some.ensures.stores in
    let both = canonical.0 refl in
    full_store_begins c.args.bytes.now c.in_ok-entries.entries.items c.in-Some.store c.in_ok-entries.rest.now c.in_ok-entries.ensures both.0 both.1 same
    (sym c.if-is_plain_store.ensures)

pub returns-in-None : goal.returns-in-None
returns-in-None g c =
    let canonical = c.in-None.ensures.canonical in
    no_full_store c.args.bytes.now c.in_ok-entries.entries.items c.in_ok-entries.rest.now c.in_ok-entries.ensures canonical.1

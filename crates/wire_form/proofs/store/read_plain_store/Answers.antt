use Rattle.std.proofs.Common.{true, refl, ◌∙◌}
use Rattle.std.proofs.lemmas.Result.{err_from_is_err_and}
use Rattle.wire_form.specs.Spelling.{pair, IsPair, counted, AreCounted, HasNoSpelling}
use Rattle.wire_form.specs.Parts.{text, IsText}
use Rattle.wire_form.specs.Store.{sole, AreSole, store, IsStoreOf}
use Rattle.wire_form.proofs.Reading.{refuses_weaker}
use Rattle.wire_form.proofs.Stores.{plain_store_begins, no_plain_items, no_plain_store}
use Rattle.wire_form.proofs.store.read_plain_store.Goals as goal

pub returns-in_err-entries : goal.returns-in_err-entries
returns-in_err-entries g c =
    let p = err_from_is_err_and c.from_residual.result c.from_residual.ensures.1 in
    rw (p.1, p.2)
    (refuses_weaker (HasNoSpelling (counted (pair text sole)) (AreCounted (IsPair IsText AreSole)) c.args.bytes.now)
    (HasNoSpelling (store true) (IsStoreOf true) c.args.bytes.now) c.in_err-entries.field-0.0
    (no_plain_items c.args.bytes.now) c.in_err-entries.ensures)

pub returns-in-Some : goal.returns-in-Some
returns-in-Some g c =
    let canonical = c.in-Some.ensures.canonical in
    let same = c.in-Some.ensures.stores in
    let both = rw c.in_ok-stores.ensures.ok at (canonical.0 refl) in
    plain_store_begins c.args.bytes.now c.in_ok-entries.entries.items c.in-Some.store c.in_ok-entries.rest.now c.in_ok-entries.ensures both.0 both.1
    (same ∙ c.in_ok-stores.ensures.ok)

pub returns-in-None : goal.returns-in-None
returns-in-None g c =
    let canonical = rw c.in_ok-stores.ensures.ok at c.in-None.ensures.canonical in
    no_plain_store c.args.bytes.now c.in_ok-entries.entries.items c.in_ok-entries.rest.now c.in_ok-entries.ensures canonical.1

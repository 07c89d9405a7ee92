use Rattle.std.proofs.Common.{List}
use Rattle.std.proofs.lemmas.Result.{err_from_is_err_and}
use Rattle.std.specs.List.{flat_map, AllByRecursion}
use Rattle.wire_form.specs.Spelling.{IsWhole, HasNoSpelling}
use Rattle.wire_form.proofs.Reading.{refuses_weaker}
use Rattle.wire_form.proofs.Wholes.{whole_spelled, items_none, items_more, items_shorter, none_items, some_bytes}
use Rattle.wire_form.proofs.page_reading.read_to_end.Goals as goal

pub loop-rest-init : goal.loop-rest-init
loop-rest-init g c = rw c.new-items.ensures.items (items_none g.T.Spelled.spell g.T.Spelled.fits c.args.bytes.now)

pub returns-in_err-item : goal.returns-in_err-item
returns-in_err-item g c =
    let spell = g.T.Spelled.spell in
    let fits = g.T.Spelled.fits in
    let p = err_from_is_err_and c.from_residual.result c.from_residual.ensures.1 in
    rw (p.1, p.2)
    (refuses_weaker (HasNoSpelling spell fits c.loop-rest.rest.now) ((ys : List g.row.T.Denot)
    → IsWhole (flat_map spell) (AllByRecursion fits) c.args.bytes.now ys → ⊥) c.in_err-item.field-0.0
    (none_items spell fits g.met.T.Spelled.starts g.met.T.Spelled.unique c.args.bytes.now c.loop-rest.items.items c.loop-rest.rest.now c.loop-rest.invariant
    (some_bytes c.loop-rest.rest.now c.loop-rest-test.ensures)) c.in_err-item.ensures)

pub loop-rest-smaller : goal.loop-rest-smaller
loop-rest-smaller g c = items_shorter g.T.Spelled.spell g.T.Spelled.fits g.met.T.Spelled.starts c.loop-rest.rest.now c.in_ok-item.item c.in_ok-item.after.now
    c.in_ok-item.ensures

pub loop-rest-preserved : goal.loop-rest-preserved
loop-rest-preserved g c =
    let spell = g.T.Spelled.spell in
    let fits = g.T.Spelled.fits in
    rw c.in_ok-push.ensures.items
    (items_more spell fits c.args.bytes.now c.loop-rest.items.items c.loop-rest.rest.now c.in_ok-item.item c.in_ok-item.after.now c.loop-rest.invariant
    c.in_ok-item.ensures)

pub returns : goal.returns
returns g c = whole_spelled (flat_map g.T.Spelled.spell) (AllByRecursion g.T.Spelled.fits)
    c.args.bytes.now c.loop-rest.items.items c.loop-rest.rest.now c.loop-rest.invariant c.loop-rest-test.ensures

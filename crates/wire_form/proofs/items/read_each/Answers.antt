use Rattle.std.proofs.Common.{◌≡◌, ◌+◌, arith, subst, sym}
use Rattle.std.proofs.lemmas.Result.{err_from_is_err_and}
use Rattle.std.specs.List.{flat_map}
use Rattle.wire_form.specs.Spelling.{Begins, HasNoSpelling}
use Rattle.wire_form.proofs.Reading.{refuses_weaker}
use Rattle.wire_form.proofs.Counting.{AreSo, none_more, none_read, one_more}
use Rattle.wire_form.proofs.items.read_each.Goals as goal

pub returns-in_err-item : goal.returns-in_err-item
returns-in_err-item g c =
    let p = err_from_is_err_and c.from_residual-in_err-item.result c.from_residual-in_err-item.ensures.1 in
    rw (p.1, p.2)
    (refuses_weaker (HasNoSpelling g.T.Spelled.spell g.T.Spelled.fits c.loop.rest.now)
    (HasNoSpelling (flat_map g.T.Spelled.spell) (AreSo g.T.Spelled.spell g.T.Spelled.fits c.args.count) c.args.bytes.now) c.in_err-item.field-0.0
    (none_more g.T.Spelled.spell g.T.Spelled.fits g.met.T.Spelled.unique c.args.bytes.now c.loop.counter c.args.count c.loop.items.items c.loop.rest.now
    c.loop.invariant c.loop-test.true) c.in_err-item.ensures)

pub loop-init : goal.loop-init
loop-init g c =
    let spell = g.T.Spelled.spell in
    let Fits = g.T.Spelled.fits in
    let bytes = c.args.bytes.now in
    subst (λ items. Begins (flat_map spell) (AreSo spell Fits 0) bytes items bytes) (sym c.in_ok-items.ensures.items) (none_read spell Fits bytes)

pub loop-preserved : goal.loop-preserved
loop-preserved g c =
    let spell = g.T.Spelled.spell in
    let Fits = g.T.Spelled.fits in
    let bytes = c.args.bytes.now in
    let after = c.in_ok-item.after.now in
    subst (λ items. Begins (flat_map spell) (AreSo spell Fits (c.loop.counter + 1)) bytes items after) (sym c.in_ok-push.ensures.items)
    (one_more spell Fits bytes c.loop.counter c.loop.items.items c.loop.rest.now c.in_ok-item.item after c.loop.invariant c.in_ok-item.ensures)

pub loop-smaller : goal.loop-smaller
loop-smaller g c = omega (arith, c.loop-test.true)

pub returns : goal.returns
returns g c =
    let spell = g.T.Spelled.spell in
    let Fits = g.T.Spelled.fits in
    let is : c.loop.counter ≡ c.args.count = omega (arith, c.loop-test.false, c.loop.auto.counter-end) in
    subst (λ n. Begins (flat_map spell) (AreSo spell Fits n) c.args.bytes.now c.loop.items.items c.loop.rest.now) is c.loop.invariant

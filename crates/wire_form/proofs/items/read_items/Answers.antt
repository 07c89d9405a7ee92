use Rattle.std.specs.List.{flat_map}
use Rattle.wire_form.specs.Spelling.{counted, AreCounted}
use Rattle.wire_form.proofs.Reading.{reads_weaker}
use Rattle.wire_form.proofs.Counting.{AreSo, too_many, counted_begins, none_counted}
use Rattle.wire_form.proofs.items.read_items.Goals as goal

pub returns-then-count-rest : goal.returns-then-count-rest
returns-then-count-rest g c =
    too_many g.T.Spelled.spell g.T.Spelled.fits g.met.T.Spelled.starts c.args.bytes.now c.in_ok-count.count c.in_ok-count.rest.now c.in_ok-count.ensures
    c.if-count-rest.true

pub returns : goal.returns
returns g c =
    let spell = g.T.Spelled.spell in
    let fits = g.T.Spelled.fits in
    let bytes = c.args.bytes.now in
    let count = c.in_ok-count.count in
    let rest = c.in_ok-count.rest.now in
    reads_weaker (λ r. (r.0.items, r.1.now)) (λ r. (r.0.items, r.1.now)) (flat_map spell) (AreSo spell fits count) (counted spell) (AreCounted fits)
    rest bytes c.read_each.result
    (λ x. counted_begins spell fits bytes count rest x.0.items x.1.now c.in_ok-count.ensures) (none_counted spell fits bytes count rest c.in_ok-count.ensures)
    c.read_each.ensures

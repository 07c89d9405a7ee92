use Rattle.std.proofs.lemmas.Result.{err_from_is_err_and}
use Rattle.wire_form.specs.Spelling.{pair, IsPair, HasNoSpelling}
use Rattle.wire_form.proofs.Pairs.{pair_begins, none_first, none_second}
use Rattle.wire_form.proofs.Reading.{refuses_weaker}
use Rattle.wire_form.proofs.spelled.Tuple2Spelled.read.Goals as goal

-- src/spelled.rt
pub returns : goal.returns
returns g c =
    pair_begins g.X.Spelled.spell g.X.Spelled.fits g.Y.Spelled.spell g.Y.Spelled.fits c.args.bytes.now c.in_ok-first.first c.in_ok-first.rest.now
    c.in_ok-second.second c.in_ok-second.rest.now
    c.in_ok-first.ensures c.in_ok-second.ensures

pub returns-in_err-first : goal.returns-in_err-first
returns-in_err-first g c =
    let p = err_from_is_err_and c.from_residual.result c.from_residual.ensures.1 in
    rw (p.1, p.2)
    (refuses_weaker (HasNoSpelling g.X.Spelled.spell g.X.Spelled.fits c.args.bytes.now)
    (HasNoSpelling (pair g.X.Spelled.spell g.Y.Spelled.spell) (IsPair g.X.Spelled.fits g.Y.Spelled.fits) c.args.bytes.now) c.in_err-first.field-0.0
    (none_first g.X.Spelled.spell g.X.Spelled.fits g.Y.Spelled.spell g.Y.Spelled.fits c.args.bytes.now) c.in_err-first.ensures)

pub returns-in_err-second : goal.returns-in_err-second
returns-in_err-second g c =
    let p = err_from_is_err_and c.from_residual-in_err-second.result c.from_residual-in_err-second.ensures.1 in
    rw (p.1, p.2)
    (refuses_weaker (HasNoSpelling g.Y.Spelled.spell g.Y.Spelled.fits c.in_ok-first.rest.now)
    (HasNoSpelling (pair g.X.Spelled.spell g.Y.Spelled.spell) (IsPair g.X.Spelled.fits g.Y.Spelled.fits) c.args.bytes.now) c.in_err-second.field-0.0
    (none_second g.X.Spelled.spell g.X.Spelled.fits g.Y.Spelled.spell g.Y.Spelled.fits g.met.X.Spelled.unique c.args.bytes.now c.in_ok-first.first
    c.in_ok-first.rest.now c.in_ok-first.ensures)
    c.in_err-second.ensures)

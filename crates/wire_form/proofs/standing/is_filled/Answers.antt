use Rattle.wire_form.proofs.Alls.{filled, not_filled}
use Rattle.wire_form.proofs.standing.is_filled.Goals as goal

pub returns-then-is_empty : goal.returns-then-is_empty
returns-then-is_empty g c = not_filled c.args.fields.now c.entries-entries.result.now c.entries-entries.ensures.all c.if-is_empty.ensures

pub returns : goal.returns
returns g c = filled c.args.fields.now c.entries-entries.result.now c.have_dots.result c.entries-entries.ensures.all c.if-is_empty.ensures c.have_dots.ensures

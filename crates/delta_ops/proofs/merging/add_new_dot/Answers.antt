use Rattle.std.proofs.Common.{sym}
use Rattle.delta_ops.proofs.Merged.{adds_none, adds_one}
use Rattle.delta_ops.proofs.merging.add_new_dot.Goals as goal

pub returns-then-contains-clause-ok : goal.returns-then-contains-clause-ok
returns-then-contains-clause-ok g c = λ _. adds_none c.args.gone.now c.args.known.now c.args.dot (sym c.if-contains.ensures)

pub returns-clause-ok : goal.returns-clause-ok
returns-clause-ok g c = λ _. adds_one c.args.gone.now c.args.known.now c.add.new.self c.args.dot (sym c.if-contains-2.ensures) c.in_ok-add.ensures.ok

use Rattle.std.proofs.lemmas.Result.{on_ok_weaker}
use Rattle.wire_form.proofs.Writes.{counted_appends}
use Rattle.wire_form.proofs.append.append_items.Goals as goal

pub returns-clause-ok : goal.returns-clause-ok
returns-clause-ok g c =
    on_ok_weaker c.append_each.result (counted_appends g.T.Spelled.spell g.T.Spelled.fits c.args.out.now.items c.append_to.new.out.items
    c.append_each.new.out.items c.args.items.now c.in_ok-append_to.ensures.ok)
    c.append_each.ensures.ok

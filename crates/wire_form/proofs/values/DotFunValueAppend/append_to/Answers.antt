use Rattle.std.proofs.lemmas.Result.{on_ok_weaker}
use Rattle.wire_form.proofs.Writes.{values_appended}
use Rattle.wire_form.proofs.values.DotFunValueAppend.append_to.Goals as goal

pub returns-clause-ok : goal.returns-clause-ok
returns-clause-ok g c =
    on_ok_weaker c.append_items.result (λ p. values_appended c.args.out.now.items c.append_items.new.out.items c.args.self.now c.entries.result.now p c.entries.ensures.rest c.entries.ensures.ordered)
    c.append_items.ensures.ok

use Rattle.std.proofs.lemmas.Result.{on_ok_weaker}
use Rattle.wire_form.proofs.Writes.{fields_appended}
use Rattle.wire_form.proofs.fields.FieldsAppend.append_to.Goals as goal

pub returns-clause-ok : goal.returns-clause-ok
returns-clause-ok g c =
    on_ok_weaker c.append_items.result (λ p. fields_appended c.args.out.now.items c.append_items.new.out.items c.args.self.now c.entries.result.now p c.entries.ensures.rest c.entries.ensures.ordered c.entries.ensures.filled)
    c.append_items.ensures.ok

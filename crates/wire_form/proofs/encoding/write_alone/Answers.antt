use Rattle.std.proofs.lemmas.Result.{on_ok_weaker}
use Rattle.wire_form.proofs.Writes.{sole_appended}
use Rattle.wire_form.proofs.encoding.write_alone.Goals as goal

pub returns-in-Some-clause-ok : goal.returns-in-Some-clause-ok
returns-in-Some-clause-ok g c =
    on_ok_weaker c.append_to.result
    (sole_appended c.args.out.now.items c.append_to.new.out.items c.args.fields.now c.in-Some.values.now c.requires c.in-Some.ensures.ascend
    c.in-Some.ensures.filled c.in-Some.ensures.values)
    c.append_to.ensures.ok

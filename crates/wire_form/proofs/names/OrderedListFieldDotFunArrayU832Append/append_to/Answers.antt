use Rattle.std.proofs.lemmas.Result.{on_ok_weaker}
use Rattle.wire_form.proofs.Pages.{named_appended}
use Rattle.wire_form.proofs.names.OrderedListFieldDotFunArrayU832Append.append_to.Goals as goal

pub returns-clause-ok : goal.returns-clause-ok
returns-clause-ok g c =
    on_ok_weaker c.append_items.result (λ p. named_appended c.args.out.now.items c.append_items.new.out.items c.args.self.now c.entries.result.now p c.entries.ensures.all c.entries.ensures.ordered)
    c.append_items.ensures.ok

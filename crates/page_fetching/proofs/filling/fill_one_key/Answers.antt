use Rattle.std.specs.FinMap as finite
use Rattle.causal_context.specs.Context.{has}
use Rattle.sync_model.specs.Opened.{held_in}
use Rattle.sync_model.specs.Filled.{fill_fields}
use Rattle.page_fetching.proofs.Adds.{one_key}
use Rattle.page_fetching.proofs.filling.fill_one_key.Goals as goal

pub returns-clause-ok : goal.returns-clause-ok
returns-clause-ok g c =
    one_key c.args.key.now (fill_fields (has c.args.seen.now) (held_in (finite.get c.args.own.now.map c.args.key.now)) c.args.named.now)
    c.args.sent.now.now c.add_entry.new.sent.now c.add_entry.new.entries.items
    c.in_ok-entries.entries.items c.in_ok-entries.ensures.items c.in_ok-add_entry.field-0 c.if-not-branch.false c.in_ok-add_entry.ensures.ok

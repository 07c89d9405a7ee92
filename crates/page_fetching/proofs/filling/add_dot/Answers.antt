use Rattle.std.proofs.Common.{sym, ◌∙◌, ap}
use Rattle.std.proofs.lemmas.Result.{IfOk-weaker}
use Rattle.std.specs.Option.{option_copied}
use Rattle.causal_context.specs.Context.{has}
use Rattle.dot_store.specs.Stores.{at_values, held_by}
use Rattle.page_fetching.proofs.Adds.{as_held, as_sent}
use Rattle.page_fetching.proofs.filling.add_dot.Goals as goal

pub returns-then-contains-clause-ok : goal.returns-then-contains-clause-ok
returns-then-contains-clause-ok g c =
    IfOk-weaker c.add_value.result _ _
    (as_held (has c.args.seen.now) (held_by at_values (option_copied c.args.own) tt)
    c.args.named.now c.in-Some.value.now c.args.values.now.items c.add_value.new.values.items c.args.sent.now.now
    (sym c.contains.ensures ∙ c.if-contains.true) (sym c.held_at.ensures ∙ ap option_copied c.in-Some.is))
    c.add_value.ensures.ok

pub returns-clause-ok : goal.returns-clause-ok
returns-clause-ok g c =
    IfOk-weaker c.add_value-2.result _ _
    (as_sent (has c.args.seen.now) (held_by at_values (option_copied c.args.own) tt)
    c.args.named.now c.in-Some-take_first.value.now c.args.values.now.items c.add_value-2.new.values.items c.args.sent.now.now _
    (sym c.contains.ensures ∙ c.if-contains.false) c.in-Some-take_first.ensures)
    c.add_value-2.ensures.ok

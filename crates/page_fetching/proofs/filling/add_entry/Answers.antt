use Rattle.std.proofs.Common.{[], ◌∷◌, ◌++◌, sym, ◌∙◌, ap}
use Rattle.std.specs.FinMap as finite
use Rattle.causal_context.specs.Context.{has}
use Rattle.sync_model.specs.Opened.{held_in}
use Rattle.sync_model.specs.Filled.{fill_fields}
use Rattle.page_fetching.specs.Adding.{made_of}
use Rattle.page_fetching.proofs.Adds.{no_fields, some_fields}
use Rattle.page_fetching.proofs.filling.add_entry.Goals as goal

pub returns-in_default-clause-ok : goal.returns-in_default-clause-ok
returns-in_default-clause-ok g c =
    no_fields c.args.key.now (fill_fields (has c.args.seen.now) (held_in (finite.get c.args.own.now.map c.args.key.now)) c.args.named.now c.args.sent.now.now)
    (ap (λ made. made_of made c.fill_named.new.sent.now) (sym c.in_default.is) ∙ c.in_ok-fields.ensures.ok
    ∙ ap (λ o. fill_fields (has c.args.seen.now) (held_in o) c.args.named.now c.args.sent.now.now) c.lookup.ensures)

pub returns-clause-ok : goal.returns-clause-ok
returns-clause-ok g c =
    some_fields c.args.key.now (fill_fields (has c.args.seen.now) (held_in (finite.get c.args.own.now.map c.args.key.now)) c.args.named.now c.args.sent.now.now)
    c.in-Some.fields c.args.entries.now.items c.push.new.self.items c.fill_named.new.sent.now
    (ap (λ made. made_of made c.fill_named.new.sent.now) (sym c.in-Some.is) ∙ c.in_ok-fields.ensures.ok
    ∙ ap (λ o. fill_fields (has c.args.seen.now) (held_in o) c.args.named.now c.args.sent.now.now) c.lookup.ensures)
    (c.in_ok-push.ensures.items ∙ ap (λ k. c.args.entries.now.items ++ (k, c.in-Some.fields) ∷ []) c.in-Ok.ensures.ok)

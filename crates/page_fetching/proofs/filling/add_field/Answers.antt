use Rattle.std.proofs.Common.{◌≡◌, true, false, [], ◌∷◌, ◌++◌, Some, None, refl, sym, ◌∙◌, ap}
use Rattle.std.specs.Option.{option_copied}
use Rattle.causal_context.specs.Context.{has}
use Rattle.dot_store.specs.Stores.{at_values, held_by}
use Rattle.sync_model.specs.Opened.{held_in}
use Rattle.sync_model.specs.Filled.{fill_values}
use Rattle.page_fetching.specs.Adding.{made_of}
use Rattle.page_fetching.proofs.Adds.{no_values, empty_values, some_values, nothing_held, held_nowhere, same_held}
use Rattle.page_fetching.proofs.filling.add_field.Goals as goal

pub returns-in_default-clause-ok : goal.returns-in_default-clause-ok
returns-in_default-clause-ok g c =
    no_values c.args.named.now.0 (fill_values (has c.args.seen.now) (held_in (option_copied c.args.own) c.args.named.now.0)
    c.args.named.now.1 c.args.sent.now.now)
    (same_held (λ held. fill_values (has c.args.seen.now) held c.args.named.now.1 c.args.sent.now.now) None
    (held_by at_values (option_copied c.field_at-held.result) tt) (held_in (option_copied c.args.own) c.args.named.now.0) c.field_at-held.ensures
    (ap (λ made. made_of made c.fill_names.new.sent.now) (sym c.in_default.is) ∙ c.in_ok-values.ensures.ok))

pub returns-then-is_empty-clause-ok : goal.returns-then-is_empty-clause-ok
returns-then-is_empty-clause-ok g c =
    empty_values c.args.named.now.0 (fill_values (has c.args.seen.now) (held_in (option_copied c.args.own) c.args.named.now.0)
    c.args.named.now.1 c.args.sent.now.now)
    c.in-Some.values c.args.fields.now.items c.args.fields.now.items c.fill_names.new.sent.now
    (same_held (λ held. fill_values (has c.args.seen.now) held c.args.named.now.1 c.args.sent.now.now) (Some (c.in-Some.values, c.fill_names.new.sent.now))
    (held_by at_values (option_copied c.field_at-held.result) tt) (held_in (option_copied c.args.own) c.args.named.now.0) c.field_at-held.ensures
    (ap (λ made. made_of made c.fill_names.new.sent.now) (sym c.in-Some.is) ∙ c.in_ok-values.ensures.ok))
    (nothing_held c.in-Some.values (c.is_empty.ensures.nothing.0 c.if-is_empty.true)) refl

pub returns-clause-ok : goal.returns-clause-ok
returns-clause-ok g c =
    some_values c.args.named.now.0 (fill_values (has c.args.seen.now) (held_in (option_copied c.args.own) c.args.named.now.0)
    c.args.named.now.1 c.args.sent.now.now)
    c.in-Some.values c.args.fields.now.items c.push.new.self.items c.fill_names.new.sent.now
    (same_held (λ held. fill_values (has c.args.seen.now) held c.args.named.now.1 c.args.sent.now.now) (Some (c.in-Some.values, c.fill_names.new.sent.now))
    (held_by at_values (option_copied c.field_at-held.result) tt) (held_in (option_copied c.args.own) c.args.named.now.0) c.field_at-held.ensures
    (ap (λ made. made_of made c.fill_names.new.sent.now) (sym c.in-Some.is) ∙ c.in_ok-values.ensures.ok))
    (λ none. let on : true ≡ false = sym (c.is_empty.ensures.nothing.1 (held_nowhere c.in-Some.values none)) ∙ c.if-is_empty.false in cc)
    (c.in_ok-push.ensures.items ∙ ap (λ f. c.args.fields.now.items ++ (f, c.in-Some.values) ∷ []) c.in-Ok.ensures.ok)

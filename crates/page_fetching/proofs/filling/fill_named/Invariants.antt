use Rattle.std.proofs.Common.{◌≡◌, ◌++◌, drop}
use Rattle.std.specs.Option.{option_copied}
use Rattle.causal_context.specs.Context.{has}
use Rattle.sync_model.specs.Opened.{held_in}
use Rattle.sync_model.specs.Filled.{made_map, fill_fields}
use Rattle.page_fetching.proofs.filling.fill_named.Given as goal

abbrev pub invariant-loop-field : goal.invariant-loop-field
invariant-loop-field g l =
    fill_fields (has l.seen) (held_in (option_copied l.own)) l.named l.fn.sent.now
    ≡ made_map (λ fs. l.fields.items ++ fs) (fill_fields (has l.seen) (held_in (option_copied l.own)) (drop l.field-index l.entries) l.sent.now)

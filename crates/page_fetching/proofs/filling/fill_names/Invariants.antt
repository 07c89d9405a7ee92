use Rattle.std.proofs.Common.{◌≡◌, ◌++◌, drop}
use Rattle.std.specs.Option.{option_copied}
use Rattle.causal_context.specs.Context.{has}
use Rattle.dot_store.specs.Stores.{at_values, held_by}
use Rattle.sync_model.specs.Filled.{made_map, fill_values}
use Rattle.page_fetching.proofs.filling.fill_names.Given as goal

abbrev pub invariant-loop-named : goal.invariant-loop-named
invariant-loop-named g l =
    fill_values (has l.seen) (held_by at_values (option_copied l.own) tt) l.names l.fn.sent.now
    ≡ made_map (λ vs. l.values.items ++ vs) (fill_values (has l.seen) (held_by at_values (option_copied l.own) tt) (drop l.named-index l.entries) l.sent.now)

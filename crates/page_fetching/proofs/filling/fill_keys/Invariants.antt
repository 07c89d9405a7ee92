use Rattle.std.proofs.Common.{◌≡◌, ◌++◌, drop}
use Rattle.causal_context.specs.Context.{has}
use Rattle.sync_model.specs.Filled.{made_map, fill_entries}
use Rattle.page_fetching.proofs.filling.fill_keys.Given as goal

abbrev pub invariant-loop-key : goal.invariant-loop-key
invariant-loop-key g l =
    fill_entries (has l.seen) l.own.map l.named l.fn.sent.now
    ≡ made_map (λ es. l.entries.items ++ es) (fill_entries (has l.seen) l.own.map (drop l.key-index l.named) l.sent.now)

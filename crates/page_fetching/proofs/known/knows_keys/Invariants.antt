use Rattle.std.proofs.Common.{◌≡◌, drop}
use Rattle.std.specs.List.{list_all}
use Rattle.causal_context.specs.Context.{has}
use Rattle.sync_model.specs.Fetch.{within_fields, within}
use Rattle.page_fetching.proofs.known.knows_keys.Given as goal

abbrev pub invariant-loop-named : goal.invariant-loop-named
invariant-loop-named g l = within (has l.known) l.entries ≡ list_all (λ e. within_fields (has l.known) e.1) (drop l.named-index l.entries)

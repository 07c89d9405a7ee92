use Rattle.std.proofs.Common.{◌≡◌, drop}
use Rattle.std.specs.List.{list_all}
use Rattle.causal_context.specs.Context.{has}
use Rattle.sync_model.specs.Fetch.{within_values}
use Rattle.page_fetching.proofs.known.knows_values.Given as goal

abbrev pub invariant-loop-dot : goal.invariant-loop-dot
invariant-loop-dot g l = within_values (has l.known) l.values ≡ list_all (λ v. has l.known v.0) (drop l.dot-index l.dot-items)

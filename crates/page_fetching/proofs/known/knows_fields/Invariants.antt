use Rattle.std.proofs.Common.{◌≡◌, drop}
use Rattle.std.specs.List.{list_all}
use Rattle.causal_context.specs.Context.{has}
use Rattle.sync_model.specs.Fetch.{within_values, within_fields}
use Rattle.page_fetching.proofs.known.knows_fields.Given as goal

abbrev pub invariant-loop-values : goal.invariant-loop-values
invariant-loop-values g l = within_fields (has l.known) l.fields ≡ list_all (λ f. within_values (has l.known) f.1) (drop l.values-index l.fields)

use Rattle.std.proofs.Common.{◌∷◌, map, take}
use Rattle.std.specs.List.{flat_map}
use Rattle.sha2.specs.Hashers.{Holds256}
use Rattle.wire_form.specs.Page.{entry}
use Rattle.prefix_digest.specs.Page.{named_entry}
use Rattle.prefix_digest.proofs.sha_summary.ShaSummarySummaryFields.list.Given as goal

abbrev pub invariant-loop-entry : goal.invariant-loop-entry
invariant-loop-entry g l = Holds256 l.hasher (1 ∷ flat_map (λ e. entry (named_entry e))
    (map (λ e. (e.value.key, e.value.value)) (take l.entry-index l.entries)))

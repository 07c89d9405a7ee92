use Rattle.std.proofs.Common.{◌∷◌}
use Rattle.std.specs.List.{flat_map}
use Rattle.sha2.specs.Hashers.{Holds256}
use Rattle.prefix_digest.proofs.Branches.{child_bytes}
use Rattle.prefix_digest.proofs.sha_summary.ShaSummarySummaryFields.branch.Given as goal

abbrev pub invariant-loop-index : goal.invariant-loop-index
invariant-loop-index g l = Holds256 l.hasher (2 ∷ flat_map child_bytes l.yielded)

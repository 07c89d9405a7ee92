use Rattle.std.proofs.Common.{◌++◌, ℕ, ◌<◌}
use Rattle.shared_object.specs.Finishing.{HasClient}
use Rattle.shared_object.proofs.finishing.has_each.Given as goal

abbrev pub invariant-loop-place : goal.invariant-loop-place
invariant-loop-place g l = (p : ℕ) → p < l.place → HasClient (l.back ++ l.clients) p

use Rattle.std.proofs.Common.{ℕ, ◌≤◌, take}
use Rattle.causal_context.specs.Context.{known_up_to}
use Rattle.causal_context.proofs.vector.covers.Given as goal

abbrev pub invariant-loop-name : goal.invariant-loop-name
invariant-loop-name g l = (q : ℕ) → known_up_to (take l.name-index l.name-items) q ≤ known_up_to l.vector q

use Rattle.std.proofs.Common.{◌≤◌, take, List, ℕ}
use Rattle.std.specs.List.{AllByRecursion}
use Rattle.wire_form.proofs.standing.have_indices.Given as goal

abbrev pub invariant-loop-index : goal.invariant-loop-index
invariant-loop-index l = AllByRecursion (λ (c : ℕ × List ℕ). c.0 ≤ l.last) (take l.index-index l.children)

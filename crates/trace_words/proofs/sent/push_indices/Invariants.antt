use Rattle.std.proofs.Common.{◌≡◌, ◌++◌, ◌∷◌, length}
use Rattle.std.specs.Fmt.{decimal}
use Rattle.std.specs.List.{flat_map}
use Rattle.trace_words.proofs.sent.push_indices.Given as goal

-- what is left comes behind what was appended
abbrev pub invariant-loop-index : goal.invariant-loop-index
invariant-loop-index g l = l.out.items ++ flat_map (λ i. 47 ∷ decimal i) l.rest ≡ l.fn.out.items ++ flat_map (λ i. 47 ∷ decimal i) l.fn.prefix

abbrev pub decreases-loop-index : goal.decreases-loop-index
decreases-loop-index g l = length l.rest

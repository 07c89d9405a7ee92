use Rattle.std.proofs.Common.{◌≡◌, ◌++◌, ◌∷◌, take}
use Rattle.std.specs.List.{flat_map}
use Rattle.trace_words.specs.Word.{shown_as}
use Rattle.trace_words.proofs.answer.push_values.Given as goal

abbrev pub invariant-loop-value : goal.invariant-loop-value
invariant-loop-value g l = l.out.items ≡ l.fn.out.items ++ flat_map (λ value. 32 ∷ shown_as value) (take l.value-index l.found)

use Rattle.std.proofs.Common.{◌≡◌, ◌++◌, take, codes}
use Rattle.std.specs.List.{flat_map}
use Rattle.trace_words.specs.Text.{dot_text}
use Rattle.trace_words.proofs.answer.push_vector.Given as goal

abbrev pub invariant-loop-name : goal.invariant-loop-name
invariant-loop-name g l = l.out.items ≡ l.fn.out.items ++ flat_map (λ entry. codes " " ++ dot_text entry.0 entry.1) (take l.name-index l.entries)

use Rattle.std.proofs.Common.{◌≡◌, ◌++◌, take, codes}
use Rattle.std.specs.List.{flat_map}
use Rattle.trace_words.specs.Text.{dot_text}
use Rattle.trace_words.proofs.answer.push_cloud.Given as goal

abbrev pub invariant-loop-dot : goal.invariant-loop-dot
invariant-loop-dot g l = l.out.items ≡ l.fn.out.items ++ flat_map (λ dot. codes " +" ++ dot_text dot.name dot.number) (take l.dot-index l.dots)

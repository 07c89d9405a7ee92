use Rattle.std.proofs.Common.{◌++◌, codes}
use Rattle.trace_words.specs.Text.{dot_text}
use Rattle.trace_words.proofs.Listing.{one_more}
use Rattle.trace_words.proofs.answer.push_vector.Goals as goal

-- src/answer.rt
pub loop-name-preserved : goal.loop-name-preserved
loop-name-preserved g c =
    one_more (λ entry. codes " " ++ dot_text entry.0 entry.1) _ _ _ c.args.entries.now c.loop-name.name-index _ c.loop-name-item.result c.loop-name-test.true
    c.loop-name-item.is c.loop-name.invariant
    (rw c.number.ensures.value at c.in_ok-push_dot.ensures.ok)

use Rattle.std.proofs.Common.{◌∙◌, ◌++◌, ap, codes}
use Rattle.trace_words.specs.Answer.{Told}
use Rattle.trace_words.proofs.answer.refused.Goals as goal

-- src/answer.rt
pub returns-clause-ok : goal.returns-clause-ok
returns-clause-ok g c =
    rw (← c.is_fault.ensures, c.if-is_fault.false)
    (ap Told (c.in_ok-extend_from_slice.ensures.items ∙ ap (λ begin. begin ++ c.as_bytes.result.now) c.in_ok-text.ensures.items
    ∙ ap (λ word. codes "refused " ++ word) (c.as_bytes.ensures.value ∙ c.word.ensures)))

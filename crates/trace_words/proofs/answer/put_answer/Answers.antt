use Rattle.std.proofs.Common.{◌≡◌, ◌∙◌}
use Rattle.trace_words.proofs.answer.put_answer.Goals as goal

-- the text that was made, of the name and the number of the dot
pub returns-clause-ok : goal.returns-clause-ok
returns-clause-ok g c =
    let name : c.number-name.result ≡ c.args.dot.name = c.number-name.ensures.value ∙ c.name.ensures in
    rw (← name) (rw (← c.number-number.ensures.value) c.in_ok-format.ensures.ok)

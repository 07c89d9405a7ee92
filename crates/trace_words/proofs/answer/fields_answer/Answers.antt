use Rattle.trace_words.proofs.answer.fields_answer.Goals as goal

-- the text that was made
pub returns-clause-ok : goal.returns-clause-ok
returns-clause-ok g c = c.in_ok-format.ensures.ok

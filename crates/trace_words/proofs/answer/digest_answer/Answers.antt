use Rattle.trace_words.proofs.answer.digest_answer.Goals as goal

-- src/answer.rt
pub returns-in_ok-from_str-in-None-clause-ok : goal.returns-in_ok-from_str-in-None-clause-ok
returns-in_ok-from_str-in-None-clause-ok g c = rw c.in-None.is c.in_ok-from_str-in-None.ensures.ok

use Rattle.trace_words.proofs.sent.push_kind.Goals as goal

-- the word that was appended
pub returns-in_ok-extend_from_slice-in-Gone-clause-ok : goal.returns-in_ok-extend_from_slice-in-Gone-clause-ok
returns-in_ok-extend_from_slice-in-Gone-clause-ok g c = rw c.in-Gone.is c.in_ok-extend_from_slice-in-Gone.ensures.items

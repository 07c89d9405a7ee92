use Rattle.trace_world.proofs.telling.came.Goals as goal

-- the word of a synchronisation that ended
pub returns-in_ok-from_slice-in-Done-clause-ok : goal.returns-in_ok-from_slice-in-Done-clause-ok
returns-in_ok-from_slice-in-Done-clause-ok g c = λ v runs from is. rw c.in-Done.is c.in_ok-from_slice-in-Done.ensures.items

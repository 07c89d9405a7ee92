use Rattle.dot_store.proofs.dot_map.joined_at.Goals as goal

-- src/dot_map.rt
pub returns-then-is_empty-clause-filled : goal.returns-then-is_empty-clause-filled
returns-then-is_empty-clause-filled g c = tt

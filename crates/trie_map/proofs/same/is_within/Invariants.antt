use Rattle.trie_map.proofs.Visits.{Visits}
use Rattle.trie_map.proofs.Holding.{IsHeldBy}
use Rattle.trie_map.proofs.same.is_within.Given as goal

abbrev pub invariant-loop-key : goal.invariant-loop-key
invariant-loop-key g l = Visits l.mine.1 l.key-iterator (IsHeldBy g.S.DotStore.at l.mine.1 l.yours.1)

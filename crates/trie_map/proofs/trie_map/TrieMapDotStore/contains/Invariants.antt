use Rattle.std.proofs.Common.{◌≡◌, None}
use Rattle.trie_map.proofs.Visits.{Visits, Reached}
use Rattle.trie_map.proofs.trie_map.TrieMapDotStore.contains.Given as goal

abbrev pub invariant-loop-store : goal.invariant-loop-store
invariant-loop-store g l = Visits l.self.1 l.store-iterator (Reached l.self.1 (λ s. (place : _) → g.S.DotStore.at s place l.dot ≡ None))

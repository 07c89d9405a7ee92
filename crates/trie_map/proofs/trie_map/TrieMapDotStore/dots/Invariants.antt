use Rattle.std.specs.Prelude.{IsTrue}
use Rattle.dots.specs.Dot.{DotValue}
use Rattle.causal_context.specs.Context.{has}
use Rattle.dot_store.specs.Store.{HoldsDot}
use Rattle.trie_map.specs.Keyed.{at_keys}
use Rattle.trie_map.proofs.Visits.{Visits, Reached}
use Rattle.trie_map.proofs.trie_map.TrieMapDotStore.dots.Given as goal

abbrev pub invariant-loop-store : goal.invariant-loop-store
invariant-loop-store g l =
    Visits l.self.1 l.store-iterator (Reached l.self.1 (λ s. (d : DotValue) → HoldsDot (g.S.DotStore.at s) d → IsTrue (has l.dots d)))
    × ((d : DotValue) → IsTrue (has l.dots d) → HoldsDot (at_keys g.S.DotStore.at l.self) d)

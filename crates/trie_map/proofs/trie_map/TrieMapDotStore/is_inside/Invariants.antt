use Rattle.std.specs.Prelude.{IsTrue, IsSome}
use Rattle.dots.specs.Dot.{DotValue}
use Rattle.causal_context.specs.Context.{has}
use Rattle.trie_map.proofs.Visits.{Visits, Reached}
use Rattle.trie_map.proofs.trie_map.TrieMapDotStore.is_inside.Given as goal

abbrev pub invariant-loop-store : goal.invariant-loop-store
invariant-loop-store g l =
    Visits l.self.1 l.store-iterator (Reached l.self.1 (λ s. (place : _) (d : DotValue) → IsSome (g.S.DotStore.at s place d) → IsTrue (has l.context d)))

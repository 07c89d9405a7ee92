use Rattle.std.proofs.Common.{◌≡◌, ℕ, List, false}
use Rattle.std.specs.Prelude.{IsTrue, IsSome}
use Rattle.causal_context.specs.Context.{has}
use Rattle.dots.specs.Dot.{DotValue}
use Rattle.trie_map.specs.Keyed.{at_keys}
use Rattle.live_map.specs.Closing.{stores_of}
use Rattle.live_map.specs.Index.{names}
use Rattle.live_map.proofs.Passing.{Passes}
use Rattle.live_map.proofs.closing.name_keys.Given as goal

abbrev pub invariant-loop-key : goal.invariant-loop-key
invariant-loop-key g l =
    Passes l.initial.key-iterator l.key-iterator
    (λ q. (place : _) (d : DotValue) → IsSome (at_keys g.S.DotStore.at (stores_of l.built) (q, place) d) → has l.known d ≡ false → IsTrue (names l.index d q))
    × ((d : DotValue) (q : List ℕ) → IsTrue (names l.fn.index d q) → IsTrue (names l.index d q))

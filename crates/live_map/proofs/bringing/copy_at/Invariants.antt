use Rattle.std.proofs.Common.{◌≡◌}
use Rattle.std.specs.Prelude.{IsSome}
use Rattle.dot_store.specs.Stores.{at_stores}
use Rattle.dots.specs.Bytes.{bytes_cmp}
use Rattle.dots.specs.Dot.{DotValue}
use Rattle.trie_map.specs.Keyed.{at_keys}
use Rattle.live_map.specs.Closing.{stores_of}
use Rattle.live_map.proofs.Passing.{Passes}
use Rattle.live_map.proofs.bringing.copy_at.Given as goal

abbrev pub invariant-loop-key : goal.invariant-loop-key
invariant-loop-key g l =
    Passes l.initial.key-iterator l.key-iterator
    (λ q. (place : _) (d : DotValue)
    → at_stores g.S.DotStore.at bytes_cmp l.held (q, place) d ≡ at_keys g.S.DotStore.at (stores_of l.trie) (q, place) d)
    × (((place : _) (d : DotValue) → IsSome (at_stores g.S.DotStore.at bytes_cmp l.fn.held place d)
    → IsSome (at_keys g.S.DotStore.at (stores_of l.trie) place d))
    → (place : _) (d : DotValue) → IsSome (at_stores g.S.DotStore.at bytes_cmp l.held place d) → IsSome (at_keys g.S.DotStore.at (stores_of l.trie) place d))

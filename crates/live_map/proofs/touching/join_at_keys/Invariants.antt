use Rattle.std.proofs.Common.{◌≡◌, ℕ, List}
use Rattle.causal_context.specs.Context.{has}
use Rattle.trie_map.specs.Joined.{IsJoinedAt, IsEitherAt}
use Rattle.trie_map.specs.Keyed.{at_keys}
use Rattle.live_map.proofs.Passing.{Passes}
use Rattle.live_map.proofs.touching.join_at_keys.Given as goal

abbrev pub invariant-loop-key : goal.invariant-loop-key
invariant-loop-key g l =
    Passes l.initial.key-iterator l.key-iterator
    (IsJoinedAt g.S.DotStore.at g.S.DotStore.greater (at_keys g.S.DotStore.at l.mine) (has l.own) (g.Y.Keyed.stands l.yours)
    (has l.theirs) l.draft.1)
    × ((q : List ℕ) → IsEitherAt g.S.DotStore.at g.S.DotStore.greater (at_keys g.S.DotStore.at l.mine) (has l.own)
    (g.Y.Keyed.stands l.yours) (has l.theirs) l.draft.1 q)
    × (l.draft.0 ≡ l.fn.draft.0)

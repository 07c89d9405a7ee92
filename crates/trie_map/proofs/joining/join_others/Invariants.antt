use Rattle.std.proofs.Common.{◌≡◌}
use Rattle.causal_context.specs.Context.{has}
use Rattle.trie_map.specs.Keyed.{at_keys}
use Rattle.trie_map.specs.Joined.{IsJoinedAt, AreJoined}
use Rattle.trie_map.proofs.Visits.{Visits}
use Rattle.trie_map.proofs.joining.join_others.Given as goal

abbrev pub invariant-loop-key : goal.invariant-loop-key
invariant-loop-key g l =
    Visits l.yours.1 l.key-iterator (IsJoinedAt g.S.DotStore.at g.S.DotStore.greater (at_keys g.S.DotStore.at l.mine) (has l.own)
    (at_keys g.S.DotStore.at l.yours) (has l.theirs) l.draft.1)
    × AreJoined g.S.DotStore.at g.S.DotStore.greater (at_keys g.S.DotStore.at l.mine) (has l.own) (at_keys g.S.DotStore.at l.yours) (has l.theirs)
    l.mine.1 l.draft.1
    × (l.draft.0 ≡ l.fn.draft.0)

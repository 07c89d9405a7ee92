use Rattle.std.specs.Prelude.{IsTrue, ◌⊎◌}
use Rattle.causal_context.specs.Context.{has}
use Rattle.trie_map.specs.Keyed.{at_keys}
use Rattle.live_map.specs.Bringing.{StaysAt}
use Rattle.live_map.specs.Closing.{stores_of}
use Rattle.live_map.specs.Index.{has_key}
use Rattle.live_map.proofs.Passing.{Passes}
use Rattle.live_map.proofs.bringing.changed_at.Given as goal

abbrev pub invariant-loop-key : goal.invariant-loop-key
invariant-loop-key g l =
    Passes l.initial.key-iterator l.key-iterator
    (λ q. IsTrue (has_key l.changed.keys q)
    ⊎ StaysAt g.S.DotStore.greater (at_keys g.S.DotStore.at l.mine) (has l.own) (at_keys g.S.DotStore.at (stores_of l.built)) (has l.theirs) q)

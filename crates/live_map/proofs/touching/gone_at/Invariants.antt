use Rattle.std.specs.List.{All}
use Rattle.trie_map.specs.Keyed.{at_keys}
use Rattle.live_map.specs.Index.{IsGone}
use Rattle.live_map.proofs.touching.gone_at.Given as goal

abbrev pub invariant-loop-key : goal.invariant-loop-key
invariant-loop-key g l = All (IsGone (at_keys g.S.DotStore.at l.store)) l.gone.items

use Rattle.std.specs.List.{All}
use Rattle.trie_map.specs.Keyed.{at_keys}
use Rattle.live_map.specs.Index.{IsGone}
use Rattle.live_map.proofs.touching.add_absent.Given as goal

abbrev pub invariant-loop-dot : goal.invariant-loop-dot
invariant-loop-dot g l = All (IsGone (at_keys g.S.DotStore.at l.store)) l.gone.items

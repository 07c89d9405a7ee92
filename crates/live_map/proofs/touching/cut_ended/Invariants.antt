use Rattle.trie_map.specs.Keyed.{at_keys}
use Rattle.live_map.specs.Index.{IsIndexed}
use Rattle.live_map.proofs.touching.cut_ended.Given as goal

abbrev pub invariant-loop-place : goal.invariant-loop-place
invariant-loop-place g l = IsIndexed (at_keys g.S.DotStore.at l.store) l.index

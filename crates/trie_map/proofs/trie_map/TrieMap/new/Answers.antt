use Rattle.std.proofs.Common.{ap}
use Rattle.dot_store.specs.Store.{HasNothing}
use Rattle.trie_map.proofs.Written.{each_none}
use Rattle.trie_map.proofs.trie_map.TrieMap.new.Goals as goal

pub invariant_of-result : goal.invariant_of-result
invariant_of-result g c =
    let none = ap (λ t. t.map) c.new.ensures in
    (each_none (λ s. HasNothing (g.S.DotStore.at s) → ⊥) c.new.result.map none, each_none g.S.DotStore.canonical c.new.result.map none)

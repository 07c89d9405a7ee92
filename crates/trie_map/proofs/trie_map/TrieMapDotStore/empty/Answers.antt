use Rattle.trie_map.proofs.Holding.{nothing_of_empty}
use Rattle.trie_map.proofs.trie_map.TrieMapDotStore.empty.Goals as goal

pub returns : goal.returns
returns g c = nothing_of_empty g.S.DotStore.at _ c.new.result c.new.ensures

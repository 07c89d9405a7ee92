use Rattle.gen_trie.proofs.Iters.{iter_shown}
use Rattle.gen_trie.proofs.trie.GenTrie.iter.Goals as goal

pub returns : goal.returns
returns g c = iter_shown g.H.PathHash.hash_of c.self.inside.hash c.self.inside.root c.self.inside.count c.self.inside.generation _ _ c.self.invariant.0
    c.self.view_is assumption

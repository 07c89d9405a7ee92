use Rattle.gen_trie.proofs.Iters.{iter_under_shown}
use Rattle.gen_trie.proofs.trie.GenTrie.iter_under.Goals as goal

pub returns : goal.returns
returns g c =
    iter_under_shown g.H.PathHash.hash_of c.self.inside.hash c.self.inside.root c.self.inside.count c.self.inside.generation _ _ c.args.prefix
    c.self.invariant.0 c.self.view_is c.under.ensures.short c.under.ensures.part

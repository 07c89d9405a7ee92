use Rattle.std.proofs.Common.{◌∙◌, ap}
use Rattle.std.specs.FinMap as finite
use Rattle.gen_trie.proofs.Roots.{size_is}
use Rattle.gen_trie.proofs.trie.GenTrie.size.Goals as goal

pub returns : goal.returns
returns g c = size_is (g.H.PathHash.hash_of c.self.inside.hash) c.self.inside.root c.self.inside.count c.self.invariant.0
    ∙ ap (λ x. finite.len x.map) c.self.view_is

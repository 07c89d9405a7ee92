use Rattle.std.proofs.Common.{Some, None, ◌∙◌, ap}
use Rattle.std.specs.FinMap as finite
use Rattle.gen_trie.proofs.Roots.{lookup_is}
use Rattle.gen_trie.proofs.trie.GenTrie.lookup_bytes.Goals as goal

pub returns-in-None : goal.returns-in-None
returns-in-None g c =
    lookup_is (g.H.PathHash.hash_of c.self.inside.hash) c.self.inside.root c.self.inside.count c.hash-hash.result c.args.key.now None c.self.invariant.0
    c.hash-hash.ensures c.in-None.ensures.value
    ∙ ap (λ x. finite.get x.map c.args.key.now) c.self.view_is

pub returns-in-Some : goal.returns-in-Some
returns-in-Some g c =
    ap (λ e. Some e.value) c.deref.ensures
    ∙ lookup_is (g.H.PathHash.hash_of c.self.inside.hash) c.self.inside.root c.self.inside.count c.hash-hash.result c.args.key.now
    (Some c.in-Some.entry.now.value.value) c.self.invariant.0 c.hash-hash.ensures
    c.in-Some.ensures.value
    ∙ ap (λ x. finite.get x.map c.args.key.now) c.self.view_is

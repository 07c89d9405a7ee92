use Rattle.std.proofs.Common.{true, ap, ◌∙◌}
use Rattle.hash_path.specs.Map.{as_map}
use Rattle.gen_trie.specs.Shown.{trie_shown}
use Rattle.gen_trie.proofs.Puts.{ok_so, err_so}
use Rattle.gen_trie.proofs.Roots.{IsTrie-same, same_root}
use Rattle.gen_trie.proofs.trie.GenTrie.seal.Goals as goal

pub invariant_of-self : goal.invariant_of-self
invariant_of-self g c = (
  IsTrie-same (g.H.PathHash.hash_of c.self.inside.hash) c.self.inside.root c.seal_root.new.root c.self.inside.count c.self.inside.count c.self.invariant.0
      (same_root c.self.inside.root c.seal_root.new.root c.self.inside.count c.seal_root.ensures.same (λ _. c.seal_root.ensures.stands)
      c.self.invariant.0.root_is) c.seal_root.ensures.same,
  c.seal_root.ensures.stamp,
)

pub returns-clause-ok : goal.returns-clause-ok
returns-clause-ok g c =
    ok_so c.seal_root.result
    (λ sealed. (λ i. trie_shown c.self.inside.hash (as_map (c.seal_root.ensures.same i)) c.self.inside.generation (sealed i))
    ∙ ap (λ x. trie_shown x.hash x.map x.generation true) c.self.view_is)
    c.seal_root.ensures.ok

pub returns-clause-same : goal.returns-clause-same
returns-clause-same g c =
    err_so c.seal_root.result
    (λ mark. (λ i. trie_shown c.self.inside.hash (as_map (c.seal_root.ensures.same i)) c.self.inside.generation (mark i)) ∙ c.self.view_is)
    c.seal_root.ensures.refused

use Rattle.std.proofs.Common.{◌≤◌, ◌∙◌, sym, subst}
use Rattle.hash_path.specs.Map.{as_map}
use Rattle.gen_trie.specs.Shown.{trie_shown}
use Rattle.gen_trie.proofs.Roots.{IsTrie-same}
use Rattle.gen_trie.proofs.trie.GenTrie.same_nodes.Goals as goal

pub invariant_of-result : goal.invariant_of-result
invariant_of-result g c = (
  IsTrie-same (g.H.PathHash.hash_of c.self.inside.hash) c.self.inside.root c.in_ok-root.root c.self.inside.count c.self.inside.count c.self.invariant.0
      (c.in_ok-root.ensures.is_root c.self.inside.count c.self.invariant.0.root_is) c.in_ok-root.ensures.same,
  subst (λ stamp. stamp ≤ c.self.inside.generation) (sym c.in_ok-root.ensures.stamp) c.self.invariant.1,
)

pub returns-clause-ok : goal.returns-clause-ok
returns-clause-ok g c =
    (λ i. trie_shown c.self.inside.hash (as_map (c.in_ok-root.ensures.same i)) c.self.inside.generation (c.in_ok-root.ensures.sealed i)) ∙ c.self.view_is

use Rattle.std.proofs.Common.{◌∙◌, ap}
use Rattle.std.specs.FinMap as finite
use Rattle.gen_trie.specs.Root.{root_sealed}
use Rattle.gen_trie.specs.Shown.{trie_shown}
use Rattle.hash_path.specs.Map.{as_map}
use Rattle.gen_trie.proofs.Puts.{ok_so, err_so, either_so}
use Rattle.gen_trie.proofs.Roots.{IsTrie-put, IsTrie-same, insert_is}
use Rattle.gen_trie.proofs.trie.GenTrie.insert.Goals as goal

pub invariant_of-self : goal.invariant_of-self
invariant_of-self g c =
    let f = g.H.PathHash.hash_of c.self.inside.hash in
    let hashed = c.hash-hash.ensures ∙ ap f c.bytes.ensures.value in (
      either_so c.insert_at.result
          (λ is. IsTrie-put f c.self.inside.root c.insert_at.new.root c.self.inside.count c.insert_at.new.count c.hash-hash.result c.args.key c.args.value
          c.self.invariant.0 hashed c.insert_at.ensures.is_root is)
          (λ same. IsTrie-same f c.self.inside.root c.insert_at.new.root c.self.inside.count c.insert_at.new.count c.self.invariant.0
          c.insert_at.ensures.is_root same)
          c.insert_at.ensures.ok c.insert_at.ensures.same,
      c.insert_at.ensures.stamp,
    )

pub returns-clause-ok : goal.returns-clause-ok
returns-clause-ok g c =
    let f = g.H.PathHash.hash_of c.self.inside.hash in
    let hashed = c.hash-hash.ensures ∙ ap f c.bytes.ensures.value in
    ok_so c.insert_at.result
    (λ is. ap (λ m. trie_shown c.self.inside.hash m c.self.inside.generation (root_sealed c.insert_at.new.root))
    (insert_is f c.self.inside.root c.insert_at.new.root c.self.inside.count c.hash-hash.result c.args.key c.args.value c.self.invariant.0 hashed is)
    ∙ ap (λ x. trie_shown x.hash (finite.insert x.map c.args.key c.args.value) x.generation (root_sealed c.insert_at.new.root)) c.self.view_is)
    c.insert_at.ensures.ok

pub returns-clause-same : goal.returns-clause-same
returns-clause-same g c =
    err_so c.insert_at.result
    (λ same. ap (λ entries. trie_shown c.self.inside.hash (as_map entries) c.self.inside.generation (root_sealed c.insert_at.new.root)) same
    ∙ ap (λ x. trie_shown x.hash x.map x.generation (root_sealed c.insert_at.new.root)) c.self.view_is)
    c.insert_at.ensures.same

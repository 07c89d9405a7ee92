use Rattle.std.proofs.Common.{ℕ, List, refl, ◌∙◌, ap}
use Rattle.std.specs.FinMap as finite
use Rattle.hash_path.specs.Word.{word}
use Rattle.hash_path.specs.Cut.{cut}
use Rattle.hash_path.specs.Map.{as_map}
use Rattle.gen_trie.specs.Root.{root_entries, root_sealed}
use Rattle.gen_trie.specs.Shown.{trie_shown}
use Rattle.gen_trie.proofs.Puts.{ok_so, err_so, either_so, if_ok_so}
use Rattle.gen_trie.proofs.Roots.{IsTrie-cut, IsTrie-same, remove_is, lookup_at}
use Rattle.gen_trie.proofs.trie.GenTrie.remove.Goals as goal

pub invariant_of-self : goal.invariant_of-self
invariant_of-self g c =
    let f = g.H.PathHash.hash_of c.self.inside.hash in
    let hashed = c.hash-hash.ensures ∙ ap f c.bytes.ensures.value in
    let read = λ (k : List ℕ). cut (word 7 c.hash-hash.result k) (root_entries c.self.inside.root) in (
      either_so c.remove_at.result
          (λ is. IsTrie-cut f c.self.inside.root c.remove_at.new.root c.self.inside.count c.remove_at.new.count c.hash-hash.result c.args.key.now
          c.self.invariant.0 hashed c.remove_at.ensures.is_root (is ∙ ap read c.bytes-2.ensures.value))
          (λ same. IsTrie-same f c.self.inside.root c.remove_at.new.root c.self.inside.count c.remove_at.new.count c.self.invariant.0
          c.remove_at.ensures.is_root same)
          c.remove_at.ensures.ok c.remove_at.ensures.same,
      c.remove_at.ensures.stamp,
    )

pub returns-clause-value : goal.returns-clause-value
returns-clause-value g c =
    if_ok_so c.remove_at.result
    (λ taken is.
    lookup_at (g.H.PathHash.hash_of c.self.inside.hash) c.self.inside.root c.self.inside.count c.hash-hash.result c.bytes.result.now c.bytes-2.result.now
    c.args.key.now _ c.self.invariant.0
    c.hash-hash.ensures c.bytes.ensures.value c.bytes-2.ensures.value is
    ∙ ap (λ x. finite.get x.map c.args.key.now) c.self.view_is)
    c.remove_at.ensures.value

pub returns-clause-ok : goal.returns-clause-ok
returns-clause-ok g c =
    let f = g.H.PathHash.hash_of c.self.inside.hash in
    let hashed = c.hash-hash.ensures ∙ ap f c.bytes.ensures.value in
    let read = λ (k : List ℕ). cut (word 7 c.hash-hash.result k) (root_entries c.self.inside.root) in
    ok_so c.remove_at.result
    (λ is. ap (λ m. trie_shown c.self.inside.hash m c.self.inside.generation (root_sealed c.remove_at.new.root))
    (remove_is f c.self.inside.root c.remove_at.new.root c.self.inside.count c.hash-hash.result c.args.key.now c.self.invariant.0 hashed
    (is ∙ ap read c.bytes-2.ensures.value))
    ∙ ap (λ x. trie_shown x.hash (finite.remove x.map c.args.key.now) x.generation (root_sealed c.remove_at.new.root)) c.self.view_is)
    c.remove_at.ensures.ok

pub returns-clause-same : goal.returns-clause-same
returns-clause-same g c =
    err_so c.remove_at.result
    (λ same. ap (λ entries. trie_shown c.self.inside.hash (as_map entries) c.self.inside.generation (root_sealed c.remove_at.new.root)) same
    ∙ ap (λ x. trie_shown x.hash x.map x.generation (root_sealed c.remove_at.new.root)) c.self.view_is)
    c.remove_at.ensures.same

pub returns-clause-absent : goal.returns-clause-absent
returns-clause-absent g c = λ none.
    c.remove_at.ensures.absent
    (lookup_at (g.H.PathHash.hash_of c.self.inside.hash) c.self.inside.root c.self.inside.count c.hash-hash.result c.bytes.result.now c.bytes-2.result.now
    c.args.key.now _ c.self.invariant.0
    c.hash-hash.ensures c.bytes.ensures.value c.bytes-2.ensures.value refl
    ∙ ap (λ x. finite.get x.map c.args.key.now) c.self.view_is
    ∙ none)

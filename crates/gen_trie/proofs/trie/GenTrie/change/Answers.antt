use Rattle.std.proofs.Common.{◌≡◌, refl, sym, ◌∙◌, ap, subst}
use Rattle.std.specs.Prelude.{is_some, IfSome, MatchOption, IfOk, OnOk}
use Rattle.std.specs.FinMap as finite
use Rattle.std.specs.FinMap.Entries.{find}
use Rattle.dots.specs.Bytes.{bytes_cmp}
use Rattle.hash_path.specs.Word.{word}
use Rattle.gen_trie.specs.Changes.{ChangesValue}
use Rattle.gen_trie.specs.Root.{root_entries}
use Rattle.gen_trie.specs.Shown.{shown_of}
use Rattle.gen_trie.proofs.ChangedRoots.{trie_after, change_is}
use Rattle.gen_trie.proofs.Roots.{lookup_at}
use Rattle.gen_trie.proofs.trie.GenTrie.change.Goals as goal

pub change_at-requires-clause-fits : goal.change_at-requires-clause-fits
change_at-requires-clause-fits g c =
    let f = g.H.PathHash.hash_of c.self.inside.hash in
    let is = lookup_at f c.self.inside.root c.self.inside.count c.hash-hash.result c.bytes.result.now c.bytes-2.result.now c.args.key.now
    (find bytes_cmp (word 7 c.hash-hash.result c.bytes-2.result.now) (root_entries c.self.inside.root))
    c.self.invariant.0 c.hash-hash.ensures c.bytes.ensures.value c.bytes-2.ensures.value refl in
    subst (λ o. IfSome o (g.C.Change.fits c.args.change.now)) (sym (is ∙ ap (λ x. finite.get x.map c.args.key.now) c.self.view_is)) c.requires

pub returns-clause-there : goal.returns-clause-there
returns-clause-there g c =
    let f = g.H.PathHash.hash_of c.self.inside.hash in
    let is = lookup_at f c.self.inside.root c.self.inside.count c.hash-hash.result c.bytes.result.now c.bytes-2.result.now c.args.key.now
    (find bytes_cmp (word 7 c.hash-hash.result c.bytes-2.result.now) (root_entries c.self.inside.root))
    c.self.invariant.0 c.hash-hash.ensures c.bytes.ensures.value c.bytes-2.ensures.value refl in
    subst (λ o. IfOk c.change_at.result (λ there. there ≡ is_some o)) (is ∙ ap (λ x. finite.get x.map c.args.key.now) c.self.view_is) c.change_at.ensures.there

pub invariant_of-self : goal.invariant_of-self
invariant_of-self g c =
    let f = g.H.PathHash.hash_of c.self.inside.hash in
    let hashed = c.hash-hash.ensures ∙ ap f (c.bytes.ensures.value ∙ sym c.bytes-2.ensures.value) in (
      trie_after (g.C.Change.becomes c.args.change.now) f c.self.inside.root c.change_at.new.root c.self.inside.count c.hash-hash.result c.bytes-2.result.now
          c.self.invariant.0 hashed c.change_at.result
          c.change_at.ensures.absent c.change_at.ensures.ok c.change_at.ensures.same c.change_at.ensures.stands,
      c.change_at.ensures.stamp,
    )

pub returns-clause-ok : goal.returns-clause-ok
returns-clause-ok g c =
    let f = g.H.PathHash.hash_of c.self.inside.hash in
    let hashed = c.hash-hash.ensures ∙ ap f (c.bytes.ensures.value ∙ sym c.bytes-2.ensures.value) in
    let becomes = g.C.Change.becomes c.args.change.now in
    let after = shown_of c.self.inside.hash c.change_at.new.root c.self.inside.generation in
    let is = change_is becomes f c.self.inside.root c.change_at.new.root c.self.inside.count c.hash-hash.result c.bytes-2.result.now c.self.invariant.0 hashed
    c.self.inside.hash c.self.inside.generation c.change_at.result
    c.change_at.ensures.there c.change_at.ensures.absent c.change_at.ensures.ok in
    subst (λ x. OnOk c.change_at.result (MatchOption (finite.get x.map c.args.key.now) (after ≡ x) (ChangesValue becomes c.args.key.now x after)))
    c.self.view_is
    (subst
    (λ k. OnOk c.change_at.result
    (MatchOption (finite.get (shown_of c.self.inside.hash c.self.inside.root c.self.inside.generation).map k)
    (after ≡ shown_of c.self.inside.hash c.self.inside.root c.self.inside.generation)
    (ChangesValue becomes k (shown_of c.self.inside.hash c.self.inside.root c.self.inside.generation) after)))
    c.bytes-2.ensures.value is)

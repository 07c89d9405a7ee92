use Rattle.std.proofs.Common.{◌≡◌, ◌∙◌, IfOk, OnOk, subst, true}
use Rattle.gen_trie.specs.Shown.{generation_after}
use Rattle.gen_trie.proofs.Puts.{err_so}
use Rattle.gen_trie.proofs.Marks.{marked}
use Rattle.gen_trie.proofs.trie.GenTrie.freeze.Goals as goal

pub returns-clause-ok : goal.returns-clause-ok
returns-clause-ok g c = subst (λ trie. IfOk c.share.result (λ frozen. frozen ≡ trie)) c.in_ok-seal.ensures.ok c.share.ensures.ok

pub returns-clause-next : goal.returns-clause-next
returns-clause-next g c =
    subst (λ trie. OnOk c.share.result (c.share.new.self ≡ record trie { generation = generation_after trie.generation }))
    c.in_ok-seal.ensures.ok c.share.ensures.next

pub returns-clause-same : goal.returns-clause-same
returns-clause-same g c = err_so c.share.result (λ same. marked c.share.new.self c.args.self.now true (same ∙ c.in_ok-seal.ensures.ok)) c.share.ensures.same

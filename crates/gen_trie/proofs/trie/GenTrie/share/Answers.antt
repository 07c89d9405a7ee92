use Rattle.std.proofs.Common.{ap, ◌∙◌, arith}
use Rattle.gen_trie.specs.Shown.{Shown, shown_of, generation_after}
use Rattle.gen_trie.proofs.trie.GenTrie.share.Goals as goal

pub returns-clause-next : goal.returns-clause-next
returns-clause-next g c =
    let started : Shown g.row.H.Denot g.row.V.Denot → Shown g.row.H.Denot g.row.V.Denot =
    λ trie. record trie { generation = generation_after trie.generation } in
    ap (shown_of c.self.inside.hash c.self.inside.root) c.saturating_add-self-inside.ensures ∙ ap started c.self.view_is

pub invariant_of-self : goal.invariant_of-self
invariant_of-self g c =
    let before = c.self.invariant.1 in
    let after = c.saturating_add-self-inside.ensures in
    (c.self.invariant.0, omega (arith, before, after))

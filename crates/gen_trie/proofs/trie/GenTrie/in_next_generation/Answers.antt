use Rattle.std.proofs.Common.{ap, ◌∙◌}
use Rattle.gen_trie.specs.Shown.{Shown, shown_of, generation_after}
use Rattle.gen_trie.proofs.trie.GenTrie.in_next_generation.Goals as goal

pub returns-clause-ok : goal.returns-clause-ok
returns-clause-ok g c =
    let started : Shown g.row.H.Denot g.row.V.Denot → Shown g.row.H.Denot g.row.V.Denot =
    λ trie. record trie { generation = generation_after trie.generation } in
    ap (shown_of c.trie.inside.hash c.trie.inside.root) c.saturating_add.ensures ∙ ap started (c.trie.view_is ∙ c.in_ok-trie.ensures.ok)

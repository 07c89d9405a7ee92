use Rattle.trie_map.proofs.Copied.{copies_filled, copies_hold}
use Rattle.trie_map.proofs.trie_map.TrieMap.to_map.Goals as goal

pub unwrap-requires : goal.unwrap-requires
unwrap-requires g c = c.from_entries.ensures.canonical.1
    (rw c.in_ok-entries.ensures (
      c.in_ok-copies.ensures.ok.ordered,
      copies_filled g.S.DotStore.at c.args.self.now.1 c.in_ok-copies.copies c.in_ok-copies.ensures.ok c.copies.ensures.filled,
    ))

pub returns-clause-ok : goal.returns-clause-ok
returns-clause-ok g c = λ place d.
    let made = rw (c.unwrap.ensures, c.in_ok-entries.ensures) at c.from_entries.ensures.stores in
    rw made (copies_hold g.S.DotStore.at c.args.self.now.1 c.in_ok-copies.copies c.in_ok-copies.ensures.ok c.args.self.now.0 place d)

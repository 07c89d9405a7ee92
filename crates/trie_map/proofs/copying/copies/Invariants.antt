use Rattle.std.specs.BTreeMap.{IsOrdered}
use Rattle.dots.specs.Bytes.{bytes_cmp}
use Rattle.trie_map.specs.Copied.{IsCopied, AreOnlyCopies}
use Rattle.trie_map.proofs.Visits.{Visits}
use Rattle.trie_map.proofs.copying.copies.Given as goal

abbrev pub invariant-loop-key : goal.invariant-loop-key
invariant-loop-key g l = Visits l.map.1 l.key-iterator (IsCopied g.S.DotStore.at l.map.1 l.copies) × AreOnlyCopies g.S.DotStore.at l.map.1 l.copies
    × IsOrdered bytes_cmp l.copies

use Rattle.std.specs.Prelude.{IsTrue}
use Rattle.live_map.specs.Index.{has_key}
use Rattle.trie_map.proofs.Visits.{Visits}
use Rattle.live_map.proofs.closing.add_touched.Given as goal

abbrev pub invariant-loop-key : goal.invariant-loop-key
invariant-loop-key g l = Visits l.touched.map l.key-iterator (λ q. IsTrue (has_key l.keys q))

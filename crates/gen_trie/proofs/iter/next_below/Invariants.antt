use Rattle.std.proofs.Common.{◌≡◌}
use Rattle.gen_trie.specs.Left.{RestStands, IsPast}
use Rattle.gen_trie.proofs.iter.next_below.Given as goal

abbrev pub invariant-loop-below : goal.invariant-loop-below
invariant-loop-below g l = (l.rest ≡ l.fn.rest) × RestStands l.rest × IsPast l.below l.rest

use Rattle.page_fetching.proofs.Ascending.{Gathers}
use Rattle.page_fetching.proofs.prefixes.set_of.Given as goal

abbrev pub invariant-loop-key : goal.invariant-loop-key
invariant-loop-key g l = Gathers (g.H.PathHash.hash_of l.waiting.hash) l.waiting.map l.prefixes l.key-iterator

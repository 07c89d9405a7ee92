use Rattle.std.proofs.Common.{refl, arith}
use Rattle.gen_trie.proofs.trie.GenTrie.at_generation.Goals as goal

pub invariant_of-result : goal.invariant_of-result
invariant_of-result g c = (record { root_is = record { stands = tt; sorted = tt; counted = refl }; hashed = tt }, omega arith)

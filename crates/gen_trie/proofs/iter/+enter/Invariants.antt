use Rattle.gen_trie.proofs.iter.+enter.Given as goal

-- the levels that are left
abbrev pub decreases-enter : goal.decreases-enter
decreases-enter g l = l.below

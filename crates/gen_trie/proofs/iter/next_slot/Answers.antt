use Rattle.std.proofs.Common.{arith}
use Rattle.gen_trie.proofs.Iters.{next_slot_is}
use Rattle.gen_trie.proofs.iter.next_slot.Goals as goal

pub returns-clause-first : goal.returns-clause-first
returns-clause-first g c = (next_slot_is 0 _ _ _ _ _ _ (omega arith) (omega (arith, c.told-levels, c.requires.bound))
    c.in_ok-first.ensures.cases.0 c.requires.stand c.requires.past).0

pub returns-clause-stand : goal.returns-clause-stand
returns-clause-stand g c = (next_slot_is 0 _ c.args.below _ _ _ _ (omega arith) (omega (arith, c.told-levels, c.requires.bound))
    c.in_ok-first.ensures.cases.0 c.requires.stand c.requires.past).1

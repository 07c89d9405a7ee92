use Rattle.std.proofs.Common.{arith}
use Rattle.gen_trie.proofs.Iters.{left_at}
use Rattle.gen_trie.proofs.iter.leave.Goals as goal

pub returns-clause-left : goal.returns-clause-left
returns-clause-left g c = (left_at 0 c.args.below c.args.below _ c.args.slots (omega arith) (omega (arith, c.told-levels, c.requires.bound))
    c.requires.fits c.requires.stand c.requires.past).0

pub returns-clause-stand : goal.returns-clause-stand
returns-clause-stand g c = (left_at 0 c.args.below c.args.below _ c.args.slots (omega arith) (omega (arith, c.told-levels, c.requires.bound))
    c.requires.fits c.requires.stand c.requires.past).1

pub returns-clause-past : goal.returns-clause-past
returns-clause-past g c = (left_at 0 c.args.below c.args.below _ c.args.slots (omega arith) (omega (arith, c.told-levels, c.requires.bound))
    c.requires.fits c.requires.stand c.requires.past).2

use Rattle.std.proofs.Common.{refl}
use Rattle.dot_store.proofs.OneKey.{only_from}
use Rattle.dot_store.proofs.one_key.only_key.Goals as goal

pub returns-then-is_alone : goal.returns-then-is_alone
returns-then-is_alone g c =
    only_from g.S.DotStore.at g.K.Ord.cmp g.met.K.Kept.exact c.args.mine.now c.args.yours.now c.args.found.now c.in_ok-key.key.now c.in_ok-key.ensures
    (c.if-is_alone.ensures refl)

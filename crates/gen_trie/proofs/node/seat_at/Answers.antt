use Rattle.gen_trie.proofs.Seats.{seat_is}
use Rattle.gen_trie.proofs.node.seat_at.Goals as goal
use Rattle.std.proofs.Common.{refl}

pub returns : goal.returns
returns g c =
    seat_is c.args.below c.args.slots.now.items c.args.bitmap _ _ _ _ _ c.requires.branch c.args.slots.now.ok.0 refl c.requires.bound c.position-at.ensures
    (c.is_there-taken.ensures c.args.below)

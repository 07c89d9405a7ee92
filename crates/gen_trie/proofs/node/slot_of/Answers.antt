use Rattle.gen_trie.proofs.Seats.{found, none_at}
use Rattle.gen_trie.proofs.node.slot_of.Goals as goal

pub index-requires : goal.index-requires
index-requires g c = c.seat_at-seat.ensures.within c.if-seat.true

pub returns-then-seat : goal.returns-then-seat
returns-then-seat g c =
    found c.args.below c.args.slots.now.items c.args.bitmap _ _ _ _ _ c.index.result.now c.requires.branch c.seat_at-seat.ensures c.args.slots.now.ok.0
    c.if-seat.true c.index.ensures

pub returns-else-seat : goal.returns-else-seat
returns-else-seat g c = none_at _ _ _ _ _ _ c.seat_at-seat.ensures c.if-seat.false

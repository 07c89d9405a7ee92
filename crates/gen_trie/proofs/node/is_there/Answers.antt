use Rattle.gen_trie.proofs.Seats.{some_there, none_there}
use Rattle.gen_trie.proofs.node.is_there.Goals as goal

pub returns-in-Some : goal.returns-in-Some
returns-in-Some g c below p =
    let found = c.in-Some.ensures.lookup in
    some_there below c.args.slots.now.items c.args.index c.args.at c.index.result c.in-Some.slot.now c.deref.result.now c.deref.ensures.value found.0 found.1
    (c.index.ensures below) p

pub returns-in-None : goal.returns-in-None
returns-in-None g c below p =
    let none = c.in-None.ensures.lookup in
    none_there below c.args.slots.now.items c.args.index c.args.at c.deref.result.now c.deref.ensures.value none.0 p

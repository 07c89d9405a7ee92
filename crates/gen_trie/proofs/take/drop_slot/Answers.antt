use Rattle.gen_trie.proofs.Takes.{bit_there, drop_is}
use Rattle.gen_trie.proofs.Stamps.{stamps_remove}
use Rattle.gen_trie.proofs.take.drop_slot.Goals as goal

pub overflow_sub-bitmap : goal.overflow_sub-bitmap
overflow_sub-bitmap g c = bit_there c.args.below c.args.hash c.args.key.now c.args.bitmap.now _ _ _ _ c.args.slots.now.items c.requires.branch c.requires.seat
    c.requires.taken

pub returns-clause-ok : goal.returns-clause-ok
returns-clause-ok g c =
    (drop_is c.args.below c.args.hash c.args.key.now c.args.bitmap.now _ _ _ _ c.args.slots.now.items c.remove.new.self.items c.requires.branch c.requires.seat
    c.requires.taken c.requires.one c.remove.ensures.items).0

pub returns-clause-branch : goal.returns-clause-branch
returns-clause-branch g c =
    (drop_is c.args.below c.args.hash c.args.key.now c.args.bitmap.now _ _ _ _ c.args.slots.now.items c.remove.new.self.items c.requires.branch c.requires.seat
    c.requires.taken c.requires.one c.remove.ensures.items).1

pub returns-clause-stamps : goal.returns-clause-stamps
returns-clause-stamps g c = λ generation all. stamps_remove generation c.args.seat.at c.args.slots.now.items _ c.remove.ensures.items all

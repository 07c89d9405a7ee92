use Rattle.std.proofs.Common.{rules, arith}
use Rattle.gen_trie.proofs.Puts.{put_new_is, bitmap_room}
use Rattle.gen_trie.proofs.Stamps.{stamps_insert}
use Rattle.gen_trie.proofs.put.put_new.Goals as goal

pub overflow_add-bitmap : goal.overflow_add-bitmap
overflow_add-bitmap g c =
    let fits = bitmap_room c.args.below c.args.bitmap.now _ _ _ _ _ c.args.slots.now.items c.requires.branch c.requires.seat c.requires.free in
    search (rules, fits)

pub returns-clause-ok : goal.returns-clause-ok
returns-clause-ok g c =
    (put_new_is c.args.below c.args.bitmap.now _ _ _ _ c.args.leaf c.args.slots.now.items _ c.requires.branch c.requires.seat c.requires.free
    c.in_ok-insert.ensures.items).0

pub returns-clause-branch : goal.returns-clause-branch
returns-clause-branch g c =
    (put_new_is c.args.below c.args.bitmap.now _ _ _ _ c.args.leaf c.args.slots.now.items _ c.requires.branch c.requires.seat c.requires.free
    c.in_ok-insert.ensures.items).1

pub returns-clause-fresh : goal.returns-clause-fresh
returns-clause-fresh g c =
    (put_new_is c.args.below c.args.bitmap.now _ _ _ _ c.args.leaf c.args.slots.now.items _ c.requires.branch c.requires.seat c.requires.free
    c.in_ok-insert.ensures.items).2

pub returns-clause-stamps : goal.returns-clause-stamps
returns-clause-stamps g c = λ generation all.
    stamps_insert generation c.args.seat.at c.args.slots.now.items _ _ (omega arith) c.in_ok-insert.ensures.items all

use Rattle.std.proofs.Common.{rules, ◌<◌, suc, length, subst, refl, arith}
use Rattle.std.specs.FinMap.Entries.{find}
use Rattle.dots.specs.Bytes.{bytes_cmp}
use Rattle.hash_path.specs.Fan.{fan}
use Rattle.hash_path.specs.Word.{word}
use Rattle.gen_trie.specs.Shapes.{children, StandsBelow}
use Rattle.gen_trie.proofs.Changes.{there_is, many_fits, child_there, child_sorted, branch_changed}
use Rattle.gen_trie.proofs.Puts.{put_none_is, ok_so, err_so, either_so}
use Rattle.gen_trie.proofs.Seats.{found}
use Rattle.gen_trie.proofs.Takes.{taken_there}
use Rattle.gen_trie.proofs.changing.+change.Goals as goal

pub change_branch-index_mut-requires : goal.change_branch-index_mut-requires
change_branch-index_mut-requires g t c =
    c.seat_of-seat.ensures.within
    (taken_there c.args.below c.args.hash c.args.key.now c.args.bitmap _ _ _ _ c.args.slots.now.items c.requires.branch c.seat_of-seat.ensures
    (there_is (find bytes_cmp (word (suc c.args.below) c.args.hash c.args.key.now) (fan (children c.args.below c.args.slots.now.items)))
    (g.C.Change.fits c.args.change.now) c.requires.found))

pub change_branch-change_slot-requires : goal.change_branch-change_slot-requires
change_branch-change_slot-requires g t c =
    let taken = taken_there c.args.below c.args.hash c.args.key.now c.args.bitmap _ _ _ _ c.args.slots.now.items c.requires.branch c.seat_of-seat.ensures
    (there_is (find bytes_cmp (word (suc c.args.below) c.args.hash c.args.key.now) (fan (children c.args.below c.args.slots.now.items)))
    (g.C.Change.fits c.args.change.now) c.requires.found) in
    let here = found c.args.below c.args.slots.now.items c.args.bitmap _ _ _ _ _ c.index_mut.result.now c.requires.branch c.seat_of-seat.ensures
    c.args.slots.now.ok.0 taken c.index_mut.ensures.value in
    let there = child_there c.args.below c.args.hash c.args.key.now c.args.bitmap c.args.slots.now.items c.requires.branch c.index_mut.result.now here.0
    (g.C.Change.fits c.args.change.now) c.requires.found in
    let sorted = child_sorted c.args.below c.args.hash c.args.key.now c.args.bitmap c.args.slots.now.items c.requires.branch c.index_mut.result.now here.0
    c.requires.sorted in
    search (rules, here.1, there, sorted)

pub change_branch-returns-clause-ok : goal.change_branch-returns-clause-ok
change_branch-returns-clause-ok g t c =
    let taken = taken_there c.args.below c.args.hash c.args.key.now c.args.bitmap _ _ _ _ c.args.slots.now.items c.requires.branch c.seat_of-seat.ensures
    (there_is (find bytes_cmp (word (suc c.args.below) c.args.hash c.args.key.now) (fan (children c.args.below c.args.slots.now.items)))
    (g.C.Change.fits c.args.change.now) c.requires.found) in
    let here = found c.args.below c.args.slots.now.items c.args.bitmap _ _ _ _ _ c.index_mut.result.now c.requires.branch c.seat_of-seat.ensures
    c.args.slots.now.ok.0 taken c.index_mut.ensures.value in
    ok_so c.change_slot.result
    (λ changed. (branch_changed c.args.below c.args.hash c.args.key.now c.args.bitmap c.args.slots.now.items c.requires.branch c.index_mut.result.now here.0
    (g.C.Change.becomes c.args.change.now) _ _ _ _ c.change_slot.new.slot
    c.seat_of-seat.ensures taken c.index_mut.ensures.value c.change_slot.ensures.index changed c.change_slot.ensures.fits).0)
    c.change_slot.ensures.ok

pub change_branch-returns-clause-branch : goal.change_branch-returns-clause-branch
change_branch-returns-clause-branch g t c =
    let taken = taken_there c.args.below c.args.hash c.args.key.now c.args.bitmap _ _ _ _ c.args.slots.now.items c.requires.branch c.seat_of-seat.ensures
    (there_is (find bytes_cmp (word (suc c.args.below) c.args.hash c.args.key.now) (fan (children c.args.below c.args.slots.now.items)))
    (g.C.Change.fits c.args.change.now) c.requires.found) in
    let here = found c.args.below c.args.slots.now.items c.args.bitmap _ _ _ _ _ c.index_mut.result.now c.requires.branch c.seat_of-seat.ensures
    c.args.slots.now.ok.0 taken c.index_mut.ensures.value in
    let within = c.seat_of-seat.ensures.within taken in
    let len = c.args.slots.now.ok.0 in
    let less : c.seat_of-seat.result.at < length c.args.slots.now.items = omega arith in
    either_so c.change_slot.result
    (λ changed. (branch_changed c.args.below c.args.hash c.args.key.now c.args.bitmap c.args.slots.now.items c.requires.branch c.index_mut.result.now here.0
    (g.C.Change.becomes c.args.change.now) _ _ _ _ c.change_slot.new.slot
    c.seat_of-seat.ensures taken c.index_mut.ensures.value c.change_slot.ensures.index changed c.change_slot.ensures.fits).1)
    (λ same. (put_none_is c.args.below c.args.bitmap c.seat_of-seat.result.at c.index_mut.result.now c.change_slot.new.slot c.args.slots.now.items _
    c.requires.branch less c.index_mut.ensures.value refl
    (λ i. (c.change_slot.ensures.index i, same i)) c.change_slot.ensures.fits).1)
    c.change_slot.ensures.ok c.change_slot.ensures.same

pub change_branch-returns-clause-same : goal.change_branch-returns-clause-same
change_branch-returns-clause-same g t c =
    let taken = taken_there c.args.below c.args.hash c.args.key.now c.args.bitmap _ _ _ _ c.args.slots.now.items c.requires.branch c.seat_of-seat.ensures
    (there_is (find bytes_cmp (word (suc c.args.below) c.args.hash c.args.key.now) (fan (children c.args.below c.args.slots.now.items)))
    (g.C.Change.fits c.args.change.now) c.requires.found) in
    let within = c.seat_of-seat.ensures.within taken in
    let len = c.args.slots.now.ok.0 in
    let less : c.seat_of-seat.result.at < length c.args.slots.now.items = omega arith in
    err_so c.change_slot.result
    (λ same. (put_none_is c.args.below c.args.bitmap c.seat_of-seat.result.at c.index_mut.result.now c.change_slot.new.slot c.args.slots.now.items _
    c.requires.branch less c.index_mut.ensures.value refl
    (λ i. (c.change_slot.ensures.index i, same i)) c.change_slot.ensures.fits).0)
    c.change_slot.ensures.same

pub change_slot-returns-in-Many-clause-fits : goal.change_slot-returns-in-Many-clause-fits
change_slot-returns-in-Many-clause-fits g t c =
    many_fits (g.C.Change.becomes c.args.change.now) c.change_shared.result c.args.below (word c.in-Many.node.value.0 c.args.hash c.args.key.now)
    c.in-Many.node.value.0 c.change_shared.new.node.value.0
    c.in-Many.node.value.1.0 c.change_shared.new.node.value.1.0 c.change_shared.ensures.height c.change_shared.ensures.ok c.change_shared.ensures.same
    (subst (StandsBelow c.args.below) c.in-Many.is c.requires.fits)

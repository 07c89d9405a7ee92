use Rattle.std.proofs.Common.{rules, ◌≡◌, ◌<◌, length, true, vec_len, sym, ◌∙◌, ap, subst, refl, arith}
use Rattle.std.specs.List.{All}
use Rattle.std.proofs.lemmas.List.Elements.{All-set}
use Rattle.hash_path.specs.Fan.{fan}
use Rattle.hash_path.specs.Word.{digit}
use Rattle.gen_trie.specs.Shapes.{children, child, listed, height_and_entries, stands_for, HasMore, StandsBelow, IsNoNewer, IsSeat}
use Rattle.gen_trie.proofs.Changes.{child_sorted}
use Rattle.gen_trie.proofs.Seats.{found}
use Rattle.gen_trie.proofs.Puts.{put_old_is, put_none_is, replaced, two_keys, one_more_key, more_keys, grown, ok_with, if_ok_so, ok_so, err_so, either_so}
use Rattle.gen_trie.proofs.Puts.{not_false}
use Rattle.gen_trie.proofs.put.+put.Goals.{put-in-Branch, put-in-Keys}
use Rattle.gen_trie.proofs.put.+put.Goals as goal

pub put_branch-put_slot-requires : goal.put_branch-put_slot-requires
put_branch-put_slot-requires g t c =
    let taken = not_false c.seat_of-seat.result.taken c.if-not-seat.false in
    let seat = subst (λ e. IsSeat (digit c.args.below e.hash) (children c.args.below c.args.slots.now.items) (vec_len c.args.slots.now)
    c.seat_of-seat.result.index c.seat_of-seat.result.at c.seat_of-seat.result.taken) c.deref.ensures c.seat_of-seat.ensures in
    let here = found c.args.below c.args.slots.now.items c.args.bitmap.now _ _ _ _ _ c.index_mut.result.now c.requires.branch seat c.args.slots.now.ok.0 taken
    c.index_mut.ensures.value in
    let sorted = child_sorted c.args.below c.args.leaf.value.hash c.args.leaf.value.key c.args.bitmap.now c.args.slots.now.items c.requires.branch
    c.index_mut.result.now here.0 c.requires.sorted in
    search (rules, here.1, sorted)

pub put_branch-returns-clause-ok : goal.put_branch-returns-clause-ok
put_branch-returns-clause-ok g t c =
    let taken = not_false c.seat_of-seat.result.taken c.if-not-seat.false in
    let seat = subst (λ e. IsSeat (digit c.args.below e.hash) (children c.args.below c.args.slots.now.items) (vec_len c.args.slots.now)
    c.seat_of-seat.result.index c.seat_of-seat.result.at c.seat_of-seat.result.taken) c.deref.ensures c.seat_of-seat.ensures in
    ok_so c.put_slot.result
    (λ new. (put_old_is c.args.below c.args.bitmap.now _ _ _ _ c.args.leaf.value c.index_mut.result.now c.put_slot.new.slot c.args.slots.now.items _
    c.requires.branch seat taken c.index_mut.ensures.value refl new c.put_slot.ensures.fits).0)
    c.put_slot.ensures.ok

pub put_branch-returns-clause-fresh : goal.put_branch-returns-clause-fresh
put_branch-returns-clause-fresh g t c =
    let taken = not_false c.seat_of-seat.result.taken c.if-not-seat.false in
    let seat = subst (λ e. IsSeat (digit c.args.below e.hash) (children c.args.below c.args.slots.now.items) (vec_len c.args.slots.now)
    c.seat_of-seat.result.index c.seat_of-seat.result.at c.seat_of-seat.result.taken) c.deref.ensures c.seat_of-seat.ensures in
    ok_with c.put_slot.result
    (λ new fresh more. grown fresh _ _ _ _ (put_old_is c.args.below c.args.bitmap.now _ _ _ _ c.args.leaf.value c.index_mut.result.now c.put_slot.new.slot
    c.args.slots.now.items _ c.requires.branch seat taken c.index_mut.ensures.value refl new c.put_slot.ensures.fits).2 more)
    c.put_slot.ensures.ok c.put_slot.ensures.fresh

pub put_branch-returns-clause-branch : goal.put_branch-returns-clause-branch
put_branch-returns-clause-branch g t c =
    let taken = not_false c.seat_of-seat.result.taken c.if-not-seat.false in
    let seat = subst (λ e. IsSeat (digit c.args.below e.hash) (children c.args.below c.args.slots.now.items) (vec_len c.args.slots.now)
    c.seat_of-seat.result.index c.seat_of-seat.result.at c.seat_of-seat.result.taken) c.deref.ensures c.seat_of-seat.ensures in
    let within = seat.within taken in
    let len = c.args.slots.now.ok.0 in
    let less : c.seat_of-seat.result.at < length c.args.slots.now.items = omega arith in
    either_so c.put_slot.result
    (λ new. (put_old_is c.args.below c.args.bitmap.now _ _ _ _ c.args.leaf.value c.index_mut.result.now c.put_slot.new.slot c.args.slots.now.items _
    c.requires.branch seat taken c.index_mut.ensures.value refl new c.put_slot.ensures.fits).1)
    (λ same. (put_none_is c.args.below c.args.bitmap.now c.seat_of-seat.result.at c.index_mut.result.now c.put_slot.new.slot c.args.slots.now.items _
    c.requires.branch less c.index_mut.ensures.value refl same c.put_slot.ensures.fits).1)
    c.put_slot.ensures.ok c.put_slot.ensures.same

pub put_branch-returns-clause-same : goal.put_branch-returns-clause-same
put_branch-returns-clause-same g t c =
    let taken = not_false c.seat_of-seat.result.taken c.if-not-seat.false in
    let within = c.seat_of-seat.ensures.within taken in
    let len = c.args.slots.now.ok.0 in
    let less : c.seat_of-seat.result.at < length c.args.slots.now.items = omega arith in
    err_so c.put_slot.result
    (λ same. (put_none_is c.args.below c.args.bitmap.now c.seat_of-seat.result.at c.index_mut.result.now c.put_slot.new.slot c.args.slots.now.items _
    c.requires.branch less c.index_mut.ensures.value refl same c.put_slot.ensures.fits).0)
    c.put_slot.ensures.same

pub put_branch-returns-clause-stamps : goal.put_branch-returns-clause-stamps
put_branch-returns-clause-stamps g t c =
    All-set (IsNoNewer c.args.generation) c.args.slots.now.items c.seat_of-seat.result.at c.put_slot.new.slot c.put_slot.ensures.stamp c.requires.stamps

pub put_slot-returns-then-same_key-clause-ok : goal.put_slot-returns-then-same_key-clause-ok
put_slot-returns-then-same_key-clause-ok g t c = replaced c.args.below c.in-One.index c.in-One.entry c.args.leaf c.args.slot.now c.in-One.is
    c.if-same_key.ensures

pub put_slot-returns-in_ok-node-in-One-clause-fits : goal.put_slot-returns-in_ok-node-in-One-clause-fits
put_slot-returns-in_ok-node-in-One-clause-fits g t c =
    two_keys c.args.below c.args.below c.in-One.entry.value c.args.leaf.value (stands_for c.in_ok-node-in-One.node.value)
    c.in_ok-node-in-One.ensures.ok c.if-same_key.ensures

pub put_slot-returns-in-Many-clause-fits : goal.put_slot-returns-in-Many-clause-fits
put_slot-returns-in-Many-clause-fits g t c =
    more_keys c.put_shared.result c.args.below c.args.leaf.value (stands_for c.put_shared.new.node.value) (stands_for c.in-Many.node.value)
    c.put_shared.ensures.ok c.put_shared.ensures.same
    (subst (StandsBelow c.args.below) c.in-Many.is c.requires.fits)

pub put-returns-clause-fresh : goal.put-returns-clause-fresh
put-returns-clause-fresh g t c =
    elim c.match-node.branch [
      | put-in-Branch w ↦
          rw (w.result-is, w.node-inside-is)
          (if_ok_so w.put_branch.result (λ fresh more. subst (λ n. HasMore fresh n.1 (fan (children w.in-Branch.below w.put_branch.new.slots.items)))
          (ap height_and_entries (sym w.in-Branch.is) ∙ ap stands_for c.node.view_is) more) w.put_branch.ensures.fresh)
      | put-in-Keys w ↦
          rw (w.result-is, w.node-inside-is)
          (if_ok_so w.put_in_list.result (λ fresh more. subst (λ n. HasMore fresh n.1 (listed w.put_in_list.new.entries.items))
          (ap height_and_entries (sym w.in-Keys.is) ∙ ap stands_for c.node.view_is) more) w.put_in_list.ensures.fresh)
    ]

pub put_shared-returns-in-Some-clause-fresh : goal.put_shared-returns-in-Some-clause-fresh
put_shared-returns-in-Some-clause-fresh g t c =
    if_ok_so c.put.result (λ fresh more. subst (λ n. HasMore fresh n.1.0 c.put.new.node.1.0) c.in-Some.ensures.value
    (subst (λ n. HasMore fresh n.1 c.put.new.node.1.0) c.restamp.ensures.same more)) c.put.ensures.fresh

pub put_shared-returns-clause-fresh : goal.put_shared-returns-clause-fresh
put_shared-returns-clause-fresh g t c =
    let same : c.deref.result.now ≡ c.args.node.now.value = search rules in
    let copied : stands_for c.in_ok-copy.copy ≡ stands_for c.args.node.now.value = ap stands_for c.in_ok-copy.ensures.ok ∙ ap stands_for same in
    let made = ap (λ n. n.value) c.replace.ensures.after ∙ c.in_ok-copy-2.ensures.ok in
    subst (λ n. HasMore c.in-Ok.fresh n.1 c.replace.new.dest.value.1.0) copied
    (subst (λ n. HasMore c.in-Ok.fresh c.in_ok-copy.copy.1.0 n.1.0) (sym made) c.in-Ok.ensures.fresh)

pub put_slot-returns-in_ok-node-in-One-clause-fresh : goal.put_slot-returns-in_ok-node-in-One-clause-fresh
put_slot-returns-in_ok-node-in-One-clause-fresh g t c =
    subst (λ s. HasMore true (child c.args.below s).1 c.in_ok-node-in-One.node.value.1.0) (sym c.in-One.is)
    (one_more_key c.args.below c.in-One.entry.value c.args.leaf.value (stands_for c.in_ok-node-in-One.node.value)
    c.in_ok-node-in-One.ensures.ok c.if-same_key.ensures)

pub put_slot-returns-in-Many-clause-fresh : goal.put_slot-returns-in-Many-clause-fresh
put_slot-returns-in-Many-clause-fresh g t c =
    if_ok_so c.put_shared.result (λ fresh more. subst (λ s. HasMore fresh (child c.args.below s).1 c.put_shared.new.node.value.1.0) (sym c.in-Many.is) more)
    c.put_shared.ensures.fresh

pub put-invariant_of-node : goal.put-invariant_of-node
put-invariant_of-node g t c =
    elim c.match-node.branch [
      | put-in-Branch w ↦ rw w.node-inside-is (
        w.put_branch.ensures.branch,
        tt,
        subst (λ s. All (IsNoNewer s) w.put_branch.new.slots.items) (sym (ap (λ n. n.1.1.1) c.node.view_is ∙ c.requires.stamp)) w.put_branch.ensures.stamps,
      )
      | put-in-Keys w ↦ rw w.node-inside-is (tt, tt, tt)
    ]

pub put_slot-returns-then-same_key-clause-fresh : goal.put_slot-returns-then-same_key-clause-fresh
put_slot-returns-then-same_key-clause-fresh g t c = ap (λ s. length (child c.args.below s).1) (sym c.in-One.is)

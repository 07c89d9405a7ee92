use Rattle.std.proofs.Common.{rules, ◌≡◌, ◌≢◌, ◌≤◌, ◌<◌, suc, length, true, sym, ◌∙◌, ap, subst, refl, arith}
use Rattle.std.specs.Prelude.{T, is_some}
use Rattle.std.specs.List.{All}
use Rattle.std.proofs.lemmas.List.Elements.{All-set}
use Rattle.std.specs.FinMap.Entries.{find, is_sorted}
use Rattle.dots.specs.Bytes.{bytes_cmp}
use Rattle.hash_path.specs.Word.{word}
use Rattle.hash_path.specs.Cut.{cut}
use Rattle.gen_trie.specs.Shapes.{child, StandsBelow, IsNoNewer, height_and_entries, stands_for}
use Rattle.gen_trie.proofs.Puts.{put_none_is, ok_so, err_so, either_so}
use Rattle.gen_trie.proofs.Seats.{found}
use Rattle.gen_trie.proofs.Takes.{taken_there, child_gives, one_gives, cut_old_is, left_none, two_left}
use Rattle.gen_trie.proofs.take.+take.Goals as goal
use Rattle.gen_trie.proofs.take.+take.Goals.{take-in-Branch, take-in-Keys}

pub take-returns-clause-ok : goal.take-returns-clause-ok
take-returns-clause-ok g t c =
    elim c.match-node.branch [
      | take-in-Branch w ↦
          rw (w.result-is, w.node-inside-is)
          (ok_so w.take_branch.result
          (λ e. ap (λ l. (suc w.in-Branch.below, l)) e ∙ ap (λ n. (n.0, cut (word n.0 c.args.hash c.args.key.now) n.1))
          (ap height_and_entries (sym w.in-Branch.is) ∙ ap stands_for c.node.view_is))
          w.take_branch.ensures.ok)
      | take-in-Keys w ↦
          rw (w.result-is, w.node-inside-is)
          (ap (λ l. (0, l)) w.take_from_list.ensures ∙ ap (λ n. (n.0, cut (word n.0 c.args.hash c.args.key.now) n.1))
          (ap height_and_entries (sym w.in-Keys.is) ∙ ap stands_for c.node.view_is))
    ]

pub take_below-returns-in-None-clause-fits : goal.take_below-returns-in-None-clause-fits
take_below-returns-in-None-clause-fits g t c =
    let fits = subst (StandsBelow c.args.below) c.in-Many.is c.requires.fits in
    let two = left_none _ c.in_ok-entry-in-Many.field-0 c.in-None.is c.in_ok-entry-in-Many.ensures.ok in
    two_left c.args.below c.args.hash c.args.key.now c.take_shared.result (stands_for c.take_shared.new.node.value) (stands_for c.in-Many.node.value)
    c.take_shared.ensures.ok c.take_shared.ensures.same fits (subst (λ n. length n.1.0 ≢ 2) c.deref.ensures two)
    (subst (λ s. T (is_sorted bytes_cmp (child c.args.below s).1)) c.in-Many.is c.requires.sorted)
    (subst (λ h. is_some (find bytes_cmp (word h c.args.hash c.args.key.now) c.in-Many.node.value.1.0) ≡ true) (sym fits.0)
    (subst (λ s. is_some (find bytes_cmp (word c.args.below c.args.hash c.args.key.now) (child c.args.below s).1) ≡ true) c.in-Many.is c.requires.found))

pub take_branch-index-requires : goal.take_branch-index-requires
take_branch-index-requires g t c =
    c.seat_of-seat.ensures.within (taken_there c.args.below c.args.hash c.args.key.now c.args.bitmap.now _ _ _ _ c.args.slots.now.items c.requires.branch
    c.seat_of-seat.ensures c.requires.found)

pub take_branch-drop_slot-requires-clause-taken : goal.take_branch-drop_slot-requires-clause-taken
take_branch-drop_slot-requires-clause-taken g t c =
    taken_there c.args.below c.args.hash c.args.key.now c.args.bitmap.now _ _ _ _ c.args.slots.now.items c.requires.branch c.seat_of-seat.ensures
    c.requires.found

pub take_branch-drop_slot-requires-clause-one : goal.take_branch-drop_slot-requires-clause-one
take_branch-drop_slot-requires-clause-one g t c =
    let taken = taken_there c.args.below c.args.hash c.args.key.now c.args.bitmap.now _ _ _ _ c.args.slots.now.items c.requires.branch c.seat_of-seat.ensures
    c.requires.found in
    let here = found c.args.below c.args.slots.now.items c.args.bitmap.now _ _ _ _ _ c.index.result.now c.requires.branch c.seat_of-seat.ensures
    c.args.slots.now.ok.0 taken c.index.ensures in
    one_gives c.args.below c.args.hash c.args.key.now c.args.bitmap.now c.args.slots.now.items c.index.result.now c.one_of.result (λ x. x.now.value)
    c.requires.branch c.requires.found here.0
    (c.one_of.ensures c.args.below) (sym c.is_some.ensures ∙ c.if-is_some.true)

pub take_branch-index_mut-requires : goal.take_branch-index_mut-requires
take_branch-index_mut-requires g t c =
    c.seat_of-seat.ensures.within (taken_there c.args.below c.args.hash c.args.key.now c.args.bitmap.now _ _ _ _ c.args.slots.now.items c.requires.branch
    c.seat_of-seat.ensures c.requires.found)

pub take_branch-take_below-requires : goal.take_branch-take_below-requires
take_branch-take_below-requires g t c =
    let taken = taken_there c.args.below c.args.hash c.args.key.now c.args.bitmap.now _ _ _ _ c.args.slots.now.items c.requires.branch c.seat_of-seat.ensures
    c.requires.found in
    let read = found c.args.below c.args.slots.now.items c.args.bitmap.now _ _ _ _ _ c.index.result.now c.requires.branch c.seat_of-seat.ensures
    c.args.slots.now.ok.0 taken c.index.ensures in
    let here = found c.args.below c.args.slots.now.items c.args.bitmap.now _ _ _ _ _ c.index_mut.result.now c.requires.branch c.seat_of-seat.ensures
    c.args.slots.now.ok.0 taken c.index_mut.ensures.value in
    let gives = child_gives c.args.below c.args.hash c.args.key.now c.args.bitmap.now c.args.slots.now.items c.index.result.now c.one_of.result
    (λ x. x.now.value) c.requires.branch c.requires.sorted c.requires.found read
    (c.one_of.ensures c.args.below) (sym c.is_some.ensures ∙ c.if-is_some.false) in
    let facts = subst (λ k. (2 ≤ length k.1) × T (is_sorted bytes_cmp k.1)
    × (is_some (find bytes_cmp (word c.args.below c.args.hash c.args.key.now) k.1) ≡ true)) (read.0 ∙ sym here.0) gives in
    search (rules, here.1, facts.0, facts.1, facts.2)

pub take_branch-returns-clause-ok : goal.take_branch-returns-clause-ok
take_branch-returns-clause-ok g t c =
    let taken = taken_there c.args.below c.args.hash c.args.key.now c.args.bitmap.now _ _ _ _ c.args.slots.now.items c.requires.branch c.seat_of-seat.ensures
    c.requires.found in
    let here = found c.args.below c.args.slots.now.items c.args.bitmap.now _ _ _ _ _ c.index_mut.result.now c.requires.branch c.seat_of-seat.ensures
    c.args.slots.now.ok.0 taken c.index_mut.ensures.value in
    ok_so c.take_below.result
    (λ new. (cut_old_is c.args.below c.args.hash c.args.key.now c.args.bitmap.now _ _ _ _ c.index_mut.result.now c.take_below.new.slot c.args.slots.now.items _
    c.requires.branch c.seat_of-seat.ensures taken here.0 refl new c.take_below.ensures.fits).0)
    c.take_below.ensures.ok

pub take_branch-returns-clause-branch : goal.take_branch-returns-clause-branch
take_branch-returns-clause-branch g t c =
    let taken = taken_there c.args.below c.args.hash c.args.key.now c.args.bitmap.now _ _ _ _ c.args.slots.now.items c.requires.branch c.seat_of-seat.ensures
    c.requires.found in
    let here = found c.args.below c.args.slots.now.items c.args.bitmap.now _ _ _ _ _ c.index_mut.result.now c.requires.branch c.seat_of-seat.ensures
    c.args.slots.now.ok.0 taken c.index_mut.ensures.value in
    let within = c.seat_of-seat.ensures.within taken in
    let len = c.args.slots.now.ok.0 in
    let less : c.seat_of-seat.result.at < length c.args.slots.now.items = omega arith in
    either_so c.take_below.result
    (λ new. (cut_old_is c.args.below c.args.hash c.args.key.now c.args.bitmap.now _ _ _ _ c.index_mut.result.now c.take_below.new.slot c.args.slots.now.items _
    c.requires.branch c.seat_of-seat.ensures taken here.0 refl new c.take_below.ensures.fits).1)
    (λ same. (put_none_is c.args.below c.args.bitmap.now c.seat_of-seat.result.at c.index_mut.result.now c.take_below.new.slot c.args.slots.now.items _
    c.requires.branch less c.index_mut.ensures.value refl same c.take_below.ensures.fits).1)
    c.take_below.ensures.ok c.take_below.ensures.same

pub take_branch-returns-clause-same : goal.take_branch-returns-clause-same
take_branch-returns-clause-same g t c =
    let taken = taken_there c.args.below c.args.hash c.args.key.now c.args.bitmap.now _ _ _ _ c.args.slots.now.items c.requires.branch c.seat_of-seat.ensures
    c.requires.found in
    let within = c.seat_of-seat.ensures.within taken in
    let len = c.args.slots.now.ok.0 in
    let less : c.seat_of-seat.result.at < length c.args.slots.now.items = omega arith in
    err_so c.take_below.result
    (λ same. (put_none_is c.args.below c.args.bitmap.now c.seat_of-seat.result.at c.index_mut.result.now c.take_below.new.slot c.args.slots.now.items _
    c.requires.branch less c.index_mut.ensures.value refl same c.take_below.ensures.fits).0)
    c.take_below.ensures.same

pub take-invariant_of-node : goal.take-invariant_of-node
take-invariant_of-node g t c =
    elim c.match-node.branch [
      | take-in-Branch w ↦ rw w.node-inside-is (
        w.take_branch.ensures.branch,
        tt,
        subst (λ s. All (IsNoNewer s) w.take_branch.new.slots.items) (sym (ap (λ n. n.1.1.1) c.node.view_is ∙ c.requires.stamp)) w.take_branch.ensures.stamps,
      )
      | take-in-Keys w ↦ rw w.node-inside-is (tt, tt, tt)
    ]

pub take_branch-returns-clause-stamps : goal.take_branch-returns-clause-stamps
take_branch-returns-clause-stamps g t c =
    All-set (IsNoNewer c.args.generation) c.args.slots.now.items c.seat_of-seat.result.at c.take_below.new.slot c.take_below.ensures.stamp c.requires.stamps

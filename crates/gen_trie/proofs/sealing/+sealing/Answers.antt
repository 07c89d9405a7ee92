use Rattle.std.proofs.Common.{◌≡◌, suc, arith, ap, subst}
use Rattle.std.proofs.lemmas.List.Elements.{All-set}
use Rattle.gen_trie.specs.Shapes.{AreNoNewer, IsCanonical, IsNoNewer, height_and_entries}
use Rattle.gen_trie.proofs.Seals.{one_sealed, sealed_more, all_sealed}
use Rattle.gen_trie.proofs.sealing.+sealing.Goals as goal

pub seal_below-seal_slots-requires : goal.seal_below-seal_slots-requires
seal_below-seal_slots-requires g t c κs within =
    let b = subst IsCanonical c.in-Branch.is c.requires.canonical in
    let height : (height_and_entries c.args.shape.now).0 ≡ suc c.in-Branch.below = ap (λ s. (height_and_entries s).0) c.in-Branch.is in
    let stamps = subst (AreNoNewer c.args.generation) c.in-Branch.is c.requires.stamps in
    (omega (arith, height, c.decreases), (within.0, (within.1.0, (within.1.1, (b.fits, stamps)))))

pub seal_slots-returns-in_err-seal_slot-clause-same : goal.seal_slots-returns-in_err-seal_slot-clause-same
seal_slots-returns-in_err-seal_slot-clause-same g t c =
    (one_sealed c.args.below c.loop-at.at c.index_mut.result.now c.seal_slot.new.slot c.args.slots.now.items c.loop-at.slots.items
    (c.loop-at.invariant.0, c.loop-at.invariant.1, c.loop-at.invariant.2) c.index_mut.ensures.value c.seal_slot.ensures.same c.seal_slot.ensures.fits).0

pub seal_slots-returns-in_err-seal_slot-clause-fits : goal.seal_slots-returns-in_err-seal_slot-clause-fits
seal_slots-returns-in_err-seal_slot-clause-fits g t c =
    (one_sealed c.args.below c.loop-at.at c.index_mut.result.now c.seal_slot.new.slot c.args.slots.now.items c.loop-at.slots.items
    (c.loop-at.invariant.0, c.loop-at.invariant.1, c.loop-at.invariant.2) c.index_mut.ensures.value c.seal_slot.ensures.same c.seal_slot.ensures.fits).1

pub seal_slots-returns-in_err-seal_slot-clause-stamps : goal.seal_slots-returns-in_err-seal_slot-clause-stamps
seal_slots-returns-in_err-seal_slot-clause-stamps g t c =
    All-set (IsNoNewer c.args.generation) c.loop-at.slots.items c.loop-at.at c.seal_slot.new.slot c.seal_slot.ensures.stamp c.loop-at.invariant.4

pub seal_slots-returns-clause-stamps : goal.seal_slots-returns-clause-stamps
seal_slots-returns-clause-stamps g t c = c.loop-at.invariant.4

pub seal_slots-returns-clause-same : goal.seal_slots-returns-clause-same
seal_slots-returns-clause-same g t c = c.loop-at.invariant.0

pub seal_slots-returns-clause-fits : goal.seal_slots-returns-clause-fits
seal_slots-returns-clause-fits g t c = c.loop-at.invariant.1

pub seal_slots-loop-at-preserved : goal.seal_slots-loop-at-preserved
seal_slots-loop-at-preserved g t c =
    let kept = one_sealed c.args.below c.loop-at.at c.index_mut.result.now c.seal_slot.new.slot c.args.slots.now.items c.loop-at.slots.items
    (c.loop-at.invariant.0, c.loop-at.invariant.1, c.loop-at.invariant.2) c.index_mut.ensures.value c.seal_slot.ensures.same c.seal_slot.ensures.fits in (
      kept.0,
      kept.1,
      kept.2,
      sealed_more c.loop-at.at c.seal_slot.new.slot c.loop-at.slots.items (omega arith) c.loop-at.invariant.3 c.in_ok-seal_slot.ensures.ok,
      All-set (IsNoNewer c.args.generation) c.loop-at.slots.items c.loop-at.at c.seal_slot.new.slot c.seal_slot.ensures.stamp c.loop-at.invariant.4,
    )

pub seal_slots-returns-clause-ok : goal.seal_slots-returns-clause-ok
seal_slots-returns-clause-ok g t c = all_sealed c.loop-at.at c.loop-at.slots.items (omega arith) c.loop-at.invariant.3

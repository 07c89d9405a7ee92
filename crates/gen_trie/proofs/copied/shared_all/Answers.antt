use Rattle.std.proofs.Common.{◌≤◌, sym, ◌∙◌, ap, subst}
use Rattle.std.specs.List.{All}
use Rattle.std.proofs.lemmas.List.{take_all}
use Rattle.std.proofs.lemmas.List.Elements.{All-push}
use Rattle.gen_trie.specs.Shapes.{children, child, IsNoNewer, StandsBelow}
use Rattle.gen_trie.proofs.Puts.{same_more}
use Rattle.gen_trie.proofs.copied.shared_all.Goals as goal

pub loop-slot-preserved : goal.loop-slot-preserved
loop-slot-preserved g c = record {
  same = λ below. same_more (child below) c.args.slots.now c.loop-slot.slot-index c.slot-item.result c.in_ok-shared.field-0 c.loop-slot.copies.items
      c.push.new.self.items
      c.loop-slot-test.true c.slot-item.is (c.in_ok-shared.ensures.same below) (c.loop-slot.invariant.same below) c.in_ok-push.ensures.items;
  fits = λ below f. subst (All (StandsBelow below)) (sym c.in_ok-push.ensures.items)
      (All-push (StandsBelow below) c.loop-slot.copies.items c.in_ok-shared.field-0 (c.loop-slot.invariant.fits below f)
      (c.in_ok-shared.ensures.fits below (subst (StandsBelow below) (sym c.slot-item.is) (f c.loop-slot.slot-index c.slot-item.result c.loop-slot-test.true))));
  stamps = λ generation f. subst (All (IsNoNewer generation)) (sym c.in_ok-push.ensures.items)
      (All-push (IsNoNewer generation) c.loop-slot.copies.items c.in_ok-shared.field-0 (c.loop-slot.invariant.stamps generation f)
      (subst (λ stamp. stamp ≤ generation) (sym c.in_ok-shared.ensures.stamp)
      (subst (IsNoNewer generation) (sym c.slot-item.is) (f c.loop-slot.slot-index c.slot-item.result c.loop-slot-test.true))));
}

pub returns-clause-same : goal.returns-clause-same
returns-clause-same g c = λ below. c.loop-slot.invariant.same below
    ∙ ap (children below) (take_all c.loop-slot.slot-index c.args.slots.now c.loop-slot-test.false)

use Rattle.std.proofs.Common.{◌≡◌, suc, arith, sym, ◌∙◌, ap, subst}
use Rattle.std.specs.List.{All}
use Rattle.hash_path.specs.Fan.{Rise}
use Rattle.hash_path.specs.Summary.{summary_of}
use Rattle.gen_trie.specs.Shapes.{children, StandsBelow, IsCanonical, height_and_entries, stands_for}
use Rattle.gen_trie.proofs.Sums.{one_before, front_fits, few_slots, children_rise, one_key, of_children, of_keys}
use Rattle.gen_trie.proofs.summing.+summing.Goals as goal

pub sum_of-returns-in-One-clause-summary : goal.sum_of-returns-in-One-clause-summary
sum_of-returns-in-One-clause-summary g t c =
    one_key g.M.Summary.calls c.args.below c.args.slot.now c.in-One.index c.in-One.entry c.bytes.result.now c.deref-in-One.result.now.value c.leaf.result
    c.in-One.is
    (c.bytes.ensures.value ∙ ap (λ e. e.key) c.deref.ensures) (ap (λ e. e.value) c.deref-in-One.ensures) c.leaf.ensures

pub branch_of-branch_of-requires : goal.branch_of-branch_of-requires
branch_of-branch_of-requires g t c κs within =
    let shorter = c.in-Some.ensures.cases.1 in
    let all =
    one_before c.args.below (summary_of g.M.Summary.calls c.args.below) c.args.slots.now c.in-Some.others.now c.in-Some.last.now c.sum_of-index.result
    c.args.behind c.beginning_with.result c.in-Some.ensures.cases.0
    c.sum_of-index.ensures.index c.sum_of-index.ensures.summary (c.beginning_with.ensures ∙ c.new-child.ensures) in (
      omega (arith, shorter, c.decreases),
      (
        within.0,
        (
          within.1.0,
          (
            within.1.1,
            (
              front_fits (StandsBelow c.args.below) c.args.slots.now c.in-Some.others.now c.in-Some.last.now c.in-Some.ensures.cases.0 c.requires.fits,
              subst (Rise 0) (sym all) c.requires.rise,
            ),
          ),
        ),
      ),
    )

pub branch_of-returns-in-Some : goal.branch_of-returns-in-Some
branch_of-returns-in-Some g t c =
    c.branch_of.ensures
    ∙ ap g.M.Summary.calls.branch (
    one_before c.args.below (summary_of g.M.Summary.calls c.args.below) c.args.slots.now c.in-Some.others.now c.in-Some.last.now c.sum_of-index.result
    c.args.behind c.beginning_with.result c.in-Some.ensures.cases.0
    c.sum_of-index.ensures.index c.sum_of-index.ensures.summary (c.beginning_with.ensures ∙ c.new-child.ensures)
    )

pub summary-branch_of-requires : goal.summary-branch_of-requires
summary-branch_of-requires g t c κs within =
    let e = ap stands_for (sym c.node.view_is) ∙ ap height_and_entries c.in-Branch.is in
    let b = subst IsCanonical c.in-Branch.is c.node.invariant.0 in
    let few = few_slots c.in-Branch.below c.deref.result.now (subst (λ l. Rise 0 (children c.in-Branch.below l)) (sym c.deref.ensures.value) b.rise) in
    let rise = children_rise g.M.Summary.calls c.in-Branch.below c.in-Branch.slots.items c.deref.result.now c.none.result b.rise c.deref.ensures.value
    c.none.ensures in
    let height : c.args.node.now.0 ≡ suc c.in-Branch.below = ap (λ n. n.0) e in (
      omega (arith, few, height, c.decreases),
      (within.0, (within.1.0, (within.1.1, (subst (All (StandsBelow c.in-Branch.below)) (sym c.deref.ensures.value) b.fits, rise)))),
    )

pub summary-returns-in-Branch : goal.summary-returns-in-Branch
summary-returns-in-Branch g t c =
    let e = ap stands_for (sym c.node.view_is) ∙ ap height_and_entries c.in-Branch.is in
    let b = subst IsCanonical c.in-Branch.is c.node.invariant.0 in
    of_children g.M.Summary.calls (stands_for c.args.node.now) c.in-Branch.below c.in-Branch.slots.items c.deref.result.now c.none.result c.branch_of.result e
    b.rise c.requires c.deref.ensures.value c.none.ensures c.branch_of.ensures

pub summary-returns-in-Keys : goal.summary-returns-in-Keys
summary-returns-in-Keys g t c =
    of_keys g.M.Summary.calls (stands_for c.args.node.now) c.in-Keys.entries.items c.deref-in-Keys.result.now c.list.result
    (ap stands_for (sym c.node.view_is) ∙ ap height_and_entries c.in-Keys.is) c.requires c.deref-in-Keys.ensures.value c.list.ensures

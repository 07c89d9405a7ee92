use Rattle.std.proofs.Common.{arith, ap}
use Rattle.gen_trie.specs.Shapes.{stands_for}
use Rattle.gen_trie.proofs.Iters.{no_empty_branch, no_empty_list, leave_asks, first_fits, lower_is, left_after, entered_branch, entered_one}
use Rattle.gen_trie.proofs.iter.+enter.Goals as goal

pub unreachable-requires : goal.unreachable-requires
unreachable-requires g t c =
    no_empty_branch c.args.below _ _ _ _ _ c.in-Many.is c.deref.ensures c.requires.fits (ap stands_for c.behind-node.view_is)
    _ _ _ c.in-Branch.is c.behind-node.invariant.0 _ c.as_slice.ensures.value c.in-None.ensures.cases

pub unreachable-unreachable : goal.unreachable-unreachable
unreachable-unreachable g t c = c.unreachable.result

pub leave-requires : goal.leave-requires
leave-requires g t c =
    leave_asks c.args.below _ _ _ _ _ c.in-Many.is c.deref.ensures c.requires.fits (ap stands_for c.behind-node.view_is)
    _ _ _ c.in-Branch.is c.behind-node.invariant.0 _ _ _ c.as_slice.ensures.value c.in-Some.ensures.cases.0 _ c.requires.stands.0 c.requires.past.1

pub enter-requires : goal.enter-requires
enter-requires g t c κs within =
    let fits = first_fits c.args.below _ _ _ _ _ c.in-Many.is c.deref.ensures c.requires.fits (ap stands_for c.behind-node.view_is)
    _ _ _ c.in-Branch.is c.behind-node.invariant.0 _ _ _ c.as_slice.ensures.value c.in-Some.ensures.cases.0 in
    let lower = lower_is c.args.below _ _ _ _ _ c.in-Many.is c.deref.ensures c.requires.fits (ap stands_for c.behind-node.view_is)
    _ _ _ c.in-Branch.is c.behind-node.invariant.0 in (
      omega (arith, lower, c.decreases),
      (
        within.0,
        (
          within.1.0,
          (within.1.1, (omega arith, (fits, ((c.leave.ensures.stand, c.requires.stands.1, c.requires.stands.2), (c.requires.past.0, c.leave.ensures.past))))),
        ),
      ),
    )

pub unreachable-requires-in-None-split_first : goal.unreachable-requires-in-None-split_first
unreachable-requires-in-None-split_first g t c =
    no_empty_list c.args.below _ _ _ _ _ c.in-Many.is c.deref.ensures c.requires.fits (ap stands_for c.behind-node.view_is)
    _ c.in-Keys.is _ c.as_slice-in-Keys.ensures.value c.in-None-split_first.ensures.cases

pub unreachable-unreachable-in-None-split_first : goal.unreachable-unreachable-in-None-split_first
unreachable-unreachable-in-None-split_first g t c = c.unreachable-in-None-split_first.result

pub returns-in-One-clause-first : goal.returns-in-One-clause-first
returns-in-One-clause-first g t c = entered_one _ _ _ _ _ c.in-One.is

pub returns-in-Some-clause-first : goal.returns-in-Some-clause-first
returns-in-Some-clause-first g t c =
    entered_branch c.args.below _ _ _ _ _ c.in-Many.is c.deref.ensures c.requires.fits (ap stands_for c.behind-node.view_is)
    _ _ _ c.in-Branch.is c.behind-node.invariant.0 _ _ _ c.as_slice.ensures.value c.in-Some.ensures.cases.0
    _ _ _ (left_after _ _ _ _ _ c.requires.past.0 c.leave.ensures.left) _ c.enter.ensures.first

use Rattle.std.proofs.Common.{ap, sym, subst, arith}
use Rattle.std.specs.List.Sorted.{IsStrictlySortedBy}
use Rattle.std.proofs.lemmas.List.Kept.{IsStrictlySortedBy-filter}
use Rattle.causal_context.specs.Dots.{dot_cmp}
use Rattle.causal_context.specs.Context.{known_up_to, in_cloud}
use Rattle.causal_context.proofs.Taken.{known-lowered, apart-lowered, known-taken, dot_taken, kept_from_taken, entry_from_last}
use Rattle.causal_context.proofs.taking.take_from.Goals as goal

pub lower-requires-clause-last : goal.lower-requires-clause-last
lower-requires-clause-last g c =
    let entry = known_up_to c.args.vector.now in
    let at = ap entry c.name.ensures in
    entry_from_last entry (in_cloud c.args.cloud.now) c.args.dot (omega (arith, at)) c.requires.last

pub returns-then-number-known_up_to-clause-taken : goal.returns-then-number-known_up_to-clause-taken
returns-then-number-known_up_to-clause-taken g c =
    let entry = known_up_to c.args.vector.now in
    let at = ap entry c.name.ensures in
    known-taken entry (in_cloud c.args.cloud.now) (in_cloud c.remove_between.new.self) c.args.dot (omega (arith, at))
    (dot_taken c.args.dot c.args.cloud.now c.remove_between.new.self c.remove_between.ensures)

pub returns-then-number-known_up_to-clause-canonical : goal.returns-then-number-known_up_to-clause-canonical
returns-then-number-known_up_to-clause-canonical g c =
    let kept = kept_from_taken c.args.dot (in_cloud c.args.cloud.now) (in_cloud c.remove_between.new.self)
    (dot_taken c.args.dot c.args.cloud.now c.remove_between.new.self c.remove_between.ensures) in
    record {
      names_ascend = c.requires.canonical.names_ascend;
      dots_ascend = subst (IsStrictlySortedBy dot_cmp) (sym c.remove_between.ensures)
          (IsStrictlySortedBy-filter dot_cmp _ c.args.cloud.now c.requires.canonical.dots_ascend);
      no_zero = c.requires.canonical.no_zero;
      apart = λ d h. c.requires.canonical.apart d (kept d h);
      bounded = λ d h. c.requires.canonical.bounded d (kept d h);
    }

pub returns-clause-taken : goal.returns-clause-taken
returns-clause-taken g c =
    let entry = known_up_to c.args.vector.now in
    let at = ap entry c.name.ensures in
    known-lowered entry (known_up_to c.lower.new.vector) (in_cloud c.args.cloud.now) c.args.dot (omega arith)
    (entry_from_last entry (in_cloud c.args.cloud.now) c.args.dot (omega (arith, at)) c.requires.last)
    c.requires.canonical.apart c.lower.ensures.lowered

pub returns-clause-canonical : goal.returns-clause-canonical
returns-clause-canonical g c =
    let entry = known_up_to c.args.vector.now in
    let at = ap entry c.name.ensures in
    record {
      names_ascend = c.lower.ensures.ascend;
      dots_ascend = c.requires.canonical.dots_ascend;
      no_zero = c.lower.ensures.no_zero;
      apart = apart-lowered entry (known_up_to c.lower.new.vector) (in_cloud c.args.cloud.now) c.args.dot
          (entry_from_last entry (in_cloud c.args.cloud.now) c.args.dot (omega (arith, at)) c.requires.last)
          c.requires.canonical.apart c.lower.ensures.lowered;
      bounded = c.requires.canonical.bounded;
    }

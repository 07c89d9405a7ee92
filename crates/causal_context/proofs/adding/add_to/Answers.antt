use Rattle.std.proofs.Common.{◌≡◌, ◌||◌, ◌<◌, sym, ap, subst, arith, ⊎_elim}
use Rattle.std.proofs.lemmas.Bool.{cases_lt}
use Rattle.dots.specs.Dot.{DotValue, same_dot}
use Rattle.causal_context.specs.Context.{known_up_to, in_cloud}
use Rattle.std.specs.List.Sorted.{IsStrictlySortedBy}
use Rattle.ordered_list.proofs.Items.{ascends_insert_key}
use Rattle.causal_context.specs.Dots.{dot_cmp}
use Rattle.causal_context.proofs.Dots.{dot_cmp_total}
use Rattle.causal_context.proofs.Clouds.{added}
use Rattle.causal_context.proofs.Known.{known-cloud, apart-cloud, known_below, bounded-cloud}
use Rattle.causal_context.proofs.adding.add_to.Goals as goal

pub returns-clause-ok : goal.returns-clause-ok
returns-clause-ok g c =
    let old = c.args.cloud.now in
    let new = c.insert.new.self in
    known-cloud (known_up_to c.args.vector.now) (in_cloud old) (in_cloud new) c.args.dot (omega arith)
    (λ d. added c.args.dot d old new (c.in_ok-insert.ensures.updates d))

pub returns-clause-canonical : goal.returns-clause-canonical
returns-clause-canonical g c =
    let old = c.args.cloud.now in
    let new = c.insert.new.self in
    let entry = known_up_to c.args.vector.now in
    let adds : (d : DotValue) → in_cloud new d ≡ (same_dot c.args.dot d || in_cloud old d) =
    λ d. added c.args.dot d old new (c.in_ok-insert.ensures.updates d) in
    let at = ap entry c.name.ensures in
    let above : entry c.args.dot.name < c.args.dot.number =
    ⊎_elim (λ l. l) (λ l. absurd (cc (known_below entry (in_cloud old) c.args.dot (omega arith) l, c.requires.absent)))
    (cases_lt (entry c.args.dot.name) c.args.dot.number) in
    record {
      names_ascend = c.requires.canonical.names_ascend;
      dots_ascend = subst (IsStrictlySortedBy dot_cmp) (sym c.in_ok-insert.ensures.ok)
          (ascends_insert_key dot_cmp dot_cmp_total old c.args.dot c.requires.canonical.dots_ascend);
      no_zero = c.requires.canonical.no_zero;
      apart = apart-cloud entry (in_cloud old) (in_cloud new) c.args.dot (omega (arith, at)) c.requires.canonical.apart adds;
      bounded = bounded-cloud (in_cloud old) (in_cloud new) c.args.dot (omega arith) c.requires.canonical.bounded adds;
    }

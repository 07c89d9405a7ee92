use Rattle.std.proofs.Common.{◌≡◌, arith, refl, sym, ◌∙◌, ap, subst, Some, true, false}
use Rattle.std.specs.Option.{option_copied}
use Rattle.std.specs.List.Sorted.{IsStrictlySortedBy}
use Rattle.std.specs.Map.{keys_of}
use Rattle.causal_context.specs.Context.{has}
use Rattle.causal_context.specs.Dots.{dot_cmp}
use Rattle.dot_store.specs.Stores.{at_values, held_by}
use Rattle.sync_model.specs.Filled.{fill_values}
use Rattle.page_fetching.specs.Adding.{fill_dot}
use Rattle.page_fetching.proofs.Loops.{starts, one_more, one_wrong, all_past}
use Rattle.page_fetching.proofs.Dots.{values_ascend}
use Rattle.page_fetching.proofs.filling.fill_names.Goals as goal

pub loop-named-init : goal.loop-named-init
loop-named-init g c =
    starts (fill_values (has c.args.seen.now) (held_by at_values (option_copied c.args.own) tt))
    (fill_dot (has c.args.seen.now) (held_by at_values (option_copied c.args.own) tt)) (λ n ns sent. refl)
    c.entries-entries.result.now c.args.names.now c.in_ok-values.values.items c.args.sent.now.now c.in_ok-values.ensures.items c.entries-entries.ensures.rest

pub returns-then-not-branch-clause-ok : goal.returns-then-not-branch-clause-ok
returns-then-not-branch-clause-ok g c =
    sym
    (one_wrong (fill_values (has c.args.seen.now) (held_by at_values (option_copied c.args.own) tt))
    (fill_dot (has c.args.seen.now) (held_by at_values (option_copied c.args.own) tt)) (λ n ns sent. refl)
    (fill_values (has c.args.seen.now) (held_by at_values (option_copied c.args.own) tt) c.args.names.now c.args.sent.now.now)
    c.loop-named.values.items c.add_dot.new.values.items c.entries-entries.result.now c.loop-named.named-index c.named-item.result c.loop-named.sent.now
    c.add_dot.new.sent.now c.in_ok-add_dot.field-0
    c.loop-named.invariant c.loop-named-test.true c.named-item.is c.if-not-branch.true c.in_ok-add_dot.ensures.ok)

pub loop-named-preserved : goal.loop-named-preserved
loop-named-preserved g c =
    one_more (fill_values (has c.args.seen.now) (held_by at_values (option_copied c.args.own) tt))
    (fill_dot (has c.args.seen.now) (held_by at_values (option_copied c.args.own) tt)) (λ n ns sent. refl)
    (fill_values (has c.args.seen.now) (held_by at_values (option_copied c.args.own) tt) c.args.names.now c.args.sent.now.now)
    c.loop-named.values.items c.add_dot.new.values.items c.entries-entries.result.now c.loop-named.named-index c.named-item.result c.loop-named.sent.now
    c.add_dot.new.sent.now c.in_ok-add_dot.field-0
    c.loop-named.invariant c.loop-named-test.true c.named-item.is c.if-not-branch.false c.in_ok-add_dot.ensures.ok

pub unreachable-requires : goal.unreachable-requires
unreachable-requires g c =
    let made = all_past (fill_values (has c.args.seen.now) (held_by at_values (option_copied c.args.own) tt))
    (fill_dot (has c.args.seen.now) (held_by at_values (option_copied c.args.own) tt)) (λ n ns sent. refl)
    (fill_values (has c.args.seen.now) (held_by at_values (option_copied c.args.own) tt) c.args.names.now c.args.sent.now.now)
    c.loop-named.values.items c.entries-entries.result.now c.loop-named.named-index c.loop-named.sent.now refl c.loop-named.invariant
    (omega (arith, c.loop-named-test.false)) in
    let named = subst (λ l. IsStrictlySortedBy dot_cmp (keys_of l)) c.entries-entries.ensures.rest c.entries-entries.ensures.ordered in
    let bad : false ≡ true = c.in-None.ensures.ascend.1 (values_ascend (has c.args.seen.now) (held_by at_values (option_copied c.args.own) tt)
    c.args.names.now c.args.sent.now.now c.loop-named.sent.now c.loop-named.values.items named made) in
    cc

pub returns-clause-ok : goal.returns-clause-ok
returns-clause-ok g c =
    ap (λ l. Some (l, c.loop-named.sent.now)) c.in-Some.ensures.values
    ∙ sym (all_past (fill_values (has c.args.seen.now) (held_by at_values (option_copied c.args.own) tt))
    (fill_dot (has c.args.seen.now) (held_by at_values (option_copied c.args.own) tt)) (λ n ns sent. refl)
    (fill_values (has c.args.seen.now) (held_by at_values (option_copied c.args.own) tt) c.args.names.now c.args.sent.now.now)
    c.loop-named.values.items c.entries-entries.result.now c.loop-named.named-index c.loop-named.sent.now refl c.loop-named.invariant
    (omega (arith, c.loop-named-test.false)))

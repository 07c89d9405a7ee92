use Rattle.std.proofs.Common.{◌≡◌, arith, refl, sym, ◌∙◌, ap, subst, Some, true, false}
use Rattle.std.specs.Option.{option_copied}
use Rattle.std.specs.List.Sorted.{IsStrictlySortedBy}
use Rattle.std.specs.Map.{keys_of}
use Rattle.causal_context.specs.Context.{has}
use Rattle.dots.specs.Bytes.{bytes_cmp}
use Rattle.sync_model.specs.Opened.{held_in}
use Rattle.sync_model.specs.Filled.{fill_values, fill_fields, then_fields}
use Rattle.page_fetching.proofs.Loops.{starts, one_more, one_wrong, all_past}
use Rattle.page_fetching.proofs.Dots.{fields_ascend, fields_filled}
use Rattle.page_fetching.proofs.Adds.{no_field_is_empty}
use Rattle.page_fetching.proofs.filling.fill_named.Goals as goal

pub loop-field-init : goal.loop-field-init
loop-field-init g c =
    starts (fill_fields (has c.args.seen.now) (held_in (option_copied c.args.own)))
    (λ n sent rest. then_fields n.0 rest (fill_values (has c.args.seen.now) (held_in (option_copied c.args.own) n.0) n.1 sent)) (λ n ns sent. refl)
    c.entries-entries.result.now c.args.named.now c.in_ok-fields.fields.items c.args.sent.now.now c.in_ok-fields.ensures.items c.entries-entries.ensures.all

pub returns-then-not-branch-clause-ok : goal.returns-then-not-branch-clause-ok
returns-then-not-branch-clause-ok g c =
    sym
    (one_wrong (fill_fields (has c.args.seen.now) (held_in (option_copied c.args.own)))
    (λ n sent rest. then_fields n.0 rest (fill_values (has c.args.seen.now) (held_in (option_copied c.args.own) n.0) n.1 sent)) (λ n ns sent. refl)
    (fill_fields (has c.args.seen.now) (held_in (option_copied c.args.own)) c.args.named.now c.args.sent.now.now)
    c.loop-field.fields.items c.add_field.new.fields.items c.entries-entries.result.now c.loop-field.field-index c.field-item.result c.loop-field.sent.now
    c.add_field.new.sent.now c.in_ok-add_field.field-0
    c.loop-field.invariant c.loop-field-test.true c.field-item.is c.if-not-branch.true c.in_ok-add_field.ensures.ok)

pub loop-field-preserved : goal.loop-field-preserved
loop-field-preserved g c =
    one_more (fill_fields (has c.args.seen.now) (held_in (option_copied c.args.own)))
    (λ n sent rest. then_fields n.0 rest (fill_values (has c.args.seen.now) (held_in (option_copied c.args.own) n.0) n.1 sent)) (λ n ns sent. refl)
    (fill_fields (has c.args.seen.now) (held_in (option_copied c.args.own)) c.args.named.now c.args.sent.now.now)
    c.loop-field.fields.items c.add_field.new.fields.items c.entries-entries.result.now c.loop-field.field-index c.field-item.result c.loop-field.sent.now
    c.add_field.new.sent.now c.in_ok-add_field.field-0
    c.loop-field.invariant c.loop-field-test.true c.field-item.is c.if-not-branch.false c.in_ok-add_field.ensures.ok

pub unreachable-requires : goal.unreachable-requires
unreachable-requires g c =
    let made = all_past (fill_fields (has c.args.seen.now) (held_in (option_copied c.args.own)))
    (λ n sent rest. then_fields n.0 rest (fill_values (has c.args.seen.now) (held_in (option_copied c.args.own) n.0) n.1 sent)) (λ n ns sent. refl)
    (fill_fields (has c.args.seen.now) (held_in (option_copied c.args.own)) c.args.named.now c.args.sent.now.now)
    c.loop-field.fields.items c.entries-entries.result.now c.loop-field.field-index c.loop-field.sent.now refl c.loop-field.invariant
    (omega (arith, c.loop-field-test.false)) in
    let named = subst (λ l. IsStrictlySortedBy bytes_cmp (keys_of l)) c.entries-entries.ensures.all c.entries-entries.ensures.ordered in
    let bad : false ≡ true = c.in-None.ensures.canonical.1 (
      fields_ascend (has c.args.seen.now) (held_in (option_copied c.args.own))
          c.args.named.now c.args.sent.now.now c.loop-field.sent.now c.loop-field.fields.items named made,
      no_field_is_empty c.loop-field.fields.items (fields_filled (has c.args.seen.now) (held_in (option_copied c.args.own))
          c.args.named.now c.args.sent.now.now c.loop-field.sent.now c.loop-field.fields.items made),
    ) in
    cc

pub returns-clause-ok : goal.returns-clause-ok
returns-clause-ok g c =
    ap (λ l. Some (l, c.loop-field.sent.now)) c.in-Some.ensures.stores
    ∙ sym (all_past (fill_fields (has c.args.seen.now) (held_in (option_copied c.args.own)))
    (λ n sent rest. then_fields n.0 rest (fill_values (has c.args.seen.now) (held_in (option_copied c.args.own) n.0) n.1 sent)) (λ n ns sent. refl)
    (fill_fields (has c.args.seen.now) (held_in (option_copied c.args.own)) c.args.named.now c.args.sent.now.now)
    c.loop-field.fields.items c.entries-entries.result.now c.loop-field.field-index c.loop-field.sent.now refl c.loop-field.invariant
    (omega (arith, c.loop-field-test.false)))

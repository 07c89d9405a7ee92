use Rattle.std.proofs.Common.{arith, refl, sym}
use Rattle.std.specs.FinMap as finite
use Rattle.causal_context.specs.Context.{has}
use Rattle.sync_model.specs.Opened.{held_in}
use Rattle.sync_model.specs.Filled.{fill_fields, fill_entries, then_entries}
use Rattle.page_fetching.proofs.Loops.{starts, one_more, one_wrong, all_past}
use Rattle.page_fetching.proofs.filling.fill_keys.Goals as goal

pub loop-key-init : goal.loop-key-init
loop-key-init g c =
    starts (fill_entries (has c.args.seen.now) c.args.own.now.map)
    (λ n sent rest. then_entries n.0 rest (fill_fields (has c.args.seen.now) (held_in (finite.get c.args.own.now.map n.0)) n.1 sent)) (λ n ns sent. refl)
    c.args.named.now c.args.named.now c.in_ok-entries.entries.items c.args.sent.now.now c.in_ok-entries.ensures.items refl

pub returns-then-not-branch-clause-ok : goal.returns-then-not-branch-clause-ok
returns-then-not-branch-clause-ok g c =
    sym
    (one_wrong (fill_entries (has c.args.seen.now) c.args.own.now.map)
    (λ n sent rest. then_entries n.0 rest (fill_fields (has c.args.seen.now) (held_in (finite.get c.args.own.now.map n.0)) n.1 sent)) (λ n ns sent. refl)
    (fill_entries (has c.args.seen.now) c.args.own.now.map c.args.named.now c.args.sent.now.now)
    c.loop-key.entries.items c.add_entry.new.entries.items c.args.named.now c.loop-key.key-index c.loop-key-item.result c.loop-key.sent.now
    c.add_entry.new.sent.now c.in_ok-add_entry.field-0
    c.loop-key.invariant c.loop-key-test.true c.loop-key-item.is c.if-not-branch.true c.in_ok-add_entry.ensures.ok)

pub loop-key-preserved : goal.loop-key-preserved
loop-key-preserved g c =
    one_more (fill_entries (has c.args.seen.now) c.args.own.now.map)
    (λ n sent rest. then_entries n.0 rest (fill_fields (has c.args.seen.now) (held_in (finite.get c.args.own.now.map n.0)) n.1 sent)) (λ n ns sent. refl)
    (fill_entries (has c.args.seen.now) c.args.own.now.map c.args.named.now c.args.sent.now.now)
    c.loop-key.entries.items c.add_entry.new.entries.items c.args.named.now c.loop-key.key-index c.loop-key-item.result c.loop-key.sent.now
    c.add_entry.new.sent.now c.in_ok-add_entry.field-0
    c.loop-key.invariant c.loop-key-test.true c.loop-key-item.is c.if-not-branch.false c.in_ok-add_entry.ensures.ok

pub returns-clause-ok : goal.returns-clause-ok
returns-clause-ok g c =
    sym
    (all_past (fill_entries (has c.args.seen.now) c.args.own.now.map)
    (λ n sent rest. then_entries n.0 rest (fill_fields (has c.args.seen.now) (held_in (finite.get c.args.own.now.map n.0)) n.1 sent)) (λ n ns sent. refl)
    (fill_entries (has c.args.seen.now) c.args.own.now.map c.args.named.now c.args.sent.now.now)
    c.loop-key.entries.items c.args.named.now c.loop-key.key-index c.loop-key.sent.now refl c.loop-key.invariant (omega (arith, c.loop-key-test.false)))

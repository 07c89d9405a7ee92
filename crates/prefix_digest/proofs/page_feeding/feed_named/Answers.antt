use Rattle.std.proofs.Common.{length, ap, subst}
use Rattle.wire_form.specs.Spelling.{number, pair}
use Rattle.wire_form.specs.Parts.{text}
use Rattle.wire_form.specs.Page.{NamedValue, names, named}
use Rattle.prefix_digest.specs.Taking.{TakesBytes}
use Rattle.prefix_digest.proofs.Taken.{takes_same, takes_both, none_taken, next_taken, all_taken}
use Rattle.prefix_digest.proofs.page_feeding.feed_named.Goals as goal

pub loop-field-init : goal.loop-field-init
loop-field-init g c = none_taken (pair text names) c.args.hasher.now c.feed_number.new.hasher (number (length c.entries-entries.result.now))
    c.feed_number.ensures

pub loop-field-preserved : goal.loop-field-preserved
loop-field-preserved g c =
    let es : NamedValue = c.entries-entries.result.now in
    let e = c.loop-field-item.result in
    let key : TakesBytes c.loop-field.hasher c.feed_text.new.hasher (text e.0) =
    takes_same c.loop-field.hasher c.feed_text.new.hasher _ _ (ap text c.bytes.ensures.value) c.feed_text.ensures in
    next_taken (pair text names) c.args.hasher.now c.loop-field.hasher c.feed_names.new.hasher (number (length es))
    es c.loop-field.field-index e c.loop-field.invariant c.loop-field-test.true c.loop-field-item.is
    (takes_both c.loop-field.hasher c.feed_text.new.hasher c.feed_names.new.hasher (text e.0) (names e.1) key c.feed_names.ensures)

pub returns : goal.returns
returns g c =
    let es : NamedValue = c.entries-entries.result.now in
    subst (λ (fs : NamedValue). TakesBytes c.args.hasher.now c.loop-field.hasher (named fs)) c.entries-entries.ensures.all
    (all_taken (pair text names) c.args.hasher.now c.loop-field.hasher (number (length es))
    es c.loop-field.field-index c.loop-field.invariant c.loop-field-test.false)

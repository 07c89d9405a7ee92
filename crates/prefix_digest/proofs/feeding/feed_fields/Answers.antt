use Rattle.std.proofs.Common.{ℕ, List, length, ap, subst}
use Rattle.causal_join.specs.OrMap.{ValuesValue, FieldsValue}
use Rattle.wire_form.specs.Spelling.{number, pair}
use Rattle.wire_form.specs.Parts.{text}
use Rattle.wire_form.specs.Page.{names, named}
use Rattle.prefix_digest.specs.Page.{named_values, named_fields}
use Rattle.prefix_digest.specs.Taking.{TakesBytes}
use Rattle.prefix_digest.proofs.Taken.{takes_same, takes_both, counted_of, none_taken, next_taken, all_taken}
use Rattle.prefix_digest.proofs.feeding.feed_fields.Goals as goal

abbrev item : List ℕ × ValuesValue → List ℕ
item f = pair text names (f.0, named_values f.1)

pub loop-field-init : goal.loop-field-init
loop-field-init g c = none_taken item c.args.hasher.now c.feed_number.new.hasher (number (length c.entries-entries.result.now)) c.feed_number.ensures

pub loop-field-preserved : goal.loop-field-preserved
loop-field-preserved g c =
    let es : FieldsValue = c.entries-entries.result.now in
    let e = c.loop-field-item.result in
    let key : TakesBytes c.loop-field.hasher c.feed_text.new.hasher (text e.0) =
    takes_same c.loop-field.hasher c.feed_text.new.hasher _ _ (ap text c.bytes.ensures.value) c.feed_text.ensures in
    next_taken item c.args.hasher.now c.loop-field.hasher c.feed_values.new.hasher (number (length es))
    es c.loop-field.field-index e c.loop-field.invariant c.loop-field-test.true c.loop-field-item.is
    (takes_both c.loop-field.hasher c.feed_text.new.hasher c.feed_values.new.hasher (text e.0) (names (named_values e.1)) key c.feed_values.ensures)

pub returns : goal.returns
returns g c =
    let es : FieldsValue = c.entries-entries.result.now in
    subst (λ (fs : FieldsValue). TakesBytes c.args.hasher.now c.loop-field.hasher (named (named_fields fs))) c.entries-entries.ensures.rest
    (takes_same c.args.hasher.now c.loop-field.hasher _ (named (named_fields es)) (counted_of (pair text names) (λ f. (f.0, named_values f.1)) es)
    (all_taken item c.args.hasher.now c.loop-field.hasher (number (length es)) es c.loop-field.field-index c.loop-field.invariant c.loop-field-test.false))
